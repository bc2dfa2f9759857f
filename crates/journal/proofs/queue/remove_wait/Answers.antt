use Rattle.std.proofs.Common.{◌≡◌, ◌<◌, ◌≤◌, true, List, map, length, get_or, ap, ◌∙◌, arith, rules}
use Rattle.step_table.specs.Journal.{without_wait}
use Rattle.journal.specs.declared.entry.JournalWait.{JournalWait}
use Rattle.journal.specs.LawfulJournal.{wait_of}
use Rattle.journal.specs.Shown.{are_same}
use Rattle.journal.proofs.Gone.{given, without_none, without_at}
use Rattle.journal.proofs.queue.remove_wait.Goals as goal

pub returns-then-eq : goal.returns-then-eq
returns-then-eq c =
    let waits : List JournalWait = c.loop-place.waits.items in
    let lt : c.loop-place.place < length c.loop-place.waits.items = search rules in
    let here : are_same (get_or c.loop-place.waits.items c.loop-place.place c.args.wait) c.args.wait ≡ true = search rules in
    let taken = given _ _ (c.remove.ensures.succeeds c.args.wait (search rules)) c.remove.ensures.items in
    ap (map wait_of) taken ∙ without_at c.args.wait waits c.loop-place.place lt c.loop-place.invariant.none here
    ∙ ap (λ (xs : List JournalWait). without_wait (wait_of c.args.wait) (map wait_of xs)) c.loop-place.invariant.same

pub returns : goal.returns
returns c =
    let all : length c.loop-place.waits.items ≤ c.loop-place.place = search rules in
    without_none c.args.wait c.loop-place.waits.items (λ k lt. c.loop-place.invariant.none k (omega arith))
    ∙ ap (λ (xs : List JournalWait). without_wait (wait_of c.args.wait) (map wait_of xs)) c.loop-place.invariant.same
