use Rattle.std.proofs.Common.{ℕ, ◌+◌, ap, ◌∙◌, get_or}
use Rattle.std.specs.HashMap as hash
use Rattle.std.specs.Prelude.{nat_eq}
use Rattle.std.proofs.lemmas.List.{get_or_read_under}
use Rattle.step_table.specs.World.{put}
use Rattle.journal.specs.Shown.{shown}
use Rattle.journal.proofs.Shown.{at_put, budget_put}
use Rattle.journal.proofs.ledger.Ledger.add.Goals as goal

pub returns-clause-shown : goal.returns-clause-shown
returns-clause-shown c =
    let old = c.args.self.now.numbers in
    let read = get_or_read_under old.items c.args.counter old.len c.index_mut.result.now 0 c.index_mut.ensures.value c.requires.counter old.ok.0 in
    let budgets = budget_put (λ k. hash.get nat_eq c.args.self.now.budgets k) (λ k. hash.get nat_eq c.insert.new.self k) c.args.seat
    (record { counter = c.args.counter; units = c.args.units }) c.in_ok-insert.ensures.updates.0 in
    (λ i. record (shown c.args.self.now) {
      numbers = λ k. (at_put old.items c.args.counter old.len (c.index_mut.result.now + c.args.units) 0 c.requires.counter old.ok.0 k
          ∙ ap (λ (x : ℕ). put (λ (m : ℕ). get_or old.items m 0) c.args.counter (x + c.args.units) k) read) i;
      budgets = λ k. budgets k i;
    })
