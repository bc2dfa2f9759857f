use Rattle.std.proofs.Common.{ℕ, ◌-◌, ap, ◌∙◌, get_or}
use Rattle.std.proofs.lemmas.List.{get_or_read_under}
use Rattle.step_table.specs.World.{put}
use Rattle.step_table.specs.Journal.{spent}
use Rattle.journal.specs.Shown.{shown}
use Rattle.journal.proofs.Shown.{at_put}
use Rattle.journal.proofs.ledger.Ledger.take.Goals as goal

pub returns-clause-shown : goal.returns-clause-shown
unfolding spent
returns-clause-shown c = λ seat.
    let old = c.args.self.now.numbers in
    let read = get_or_read_under old.items c.args.counter old.len c.index.result.now 0 c.index.ensures c.requires old.ok.0 in
    (λ i. record (shown c.args.self.now) {
      numbers = λ k. (at_put old.items c.args.counter old.len c.saturating_sub.result 0 c.requires old.ok.0 k
          ∙ ap (λ (x : ℕ). put (λ (m : ℕ). get_or old.items m 0) c.args.counter x k) (c.saturating_sub.ensures ∙ ap (λ (x : ℕ). x - 1) read)) i;
    })
