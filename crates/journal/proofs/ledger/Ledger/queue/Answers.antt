use Rattle.std.proofs.Common.{ℕ, List, [], ap, ◌∙◌, get_or}
use Rattle.std.proofs.lemmas.List.{get_or_read_under}
use Rattle.waiters.specs.declared.wait.WaitId.{WaitId}
use Rattle.step_table.specs.World.{put, insert_wait}
use Rattle.journal.specs.LawfulJournal.{wait_of}
use Rattle.step_table.specs.Journal.{spent, is_same}
use Rattle.journal.specs.Shown.{shown}
use Rattle.journal.proofs.Shown.{at_put, or_is}
use Rattle.journal.proofs.ledger.Ledger.queue.Goals as goal

pub returns-clause-shown : goal.returns-clause-shown
unfolding spent
returns-clause-shown c =
    let old = c.args.self.now.queues in
    let read = get_or_read_under old.items c.args.counter old.len c.index_mut.result.now [] c.index_mut.ensures.value c.requires old.ok.0 in
    (λ i. record (shown c.args.self.now) {
      lists = λ k. (at_put old.items c.args.counter old.len c.insert.new.self [] c.requires old.ok.0 k
          ∙ ap (λ (x : List WaitId). put (λ (m : ℕ). get_or old.items m []) c.args.counter x k)
          (c.in_ok-insert.ensures ∙ ap (insert_wait c.args.lifo (wait_of c.args.wait)) read)) i;
      queued = λ w. (c.in_ok-insert-2.ensures.updates.0 (record { seat = w.seat; turn = w.turn })
          ∙ or_is (is_same (wait_of c.args.wait) w) ((shown c.args.self.now).queued w)) i;
    })
