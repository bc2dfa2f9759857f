use Rattle.std.proofs.Common.{ℕ, ◌-◌, List, [], drop, ap, ◌∙◌, get_or}
use Rattle.std.specs.HashMap as hash
use Rattle.std.specs.Prelude.{nat_eq}
use Rattle.std.proofs.lemmas.List.{get_or_read_under}
use Rattle.waiters.specs.declared.wait.WaitId.{WaitId}
use Rattle.step_table.specs.World.{put}
use Rattle.journal.specs.Shown.{shown}
use Rattle.journal.proofs.Shown.{at_put, budget_less}
use Rattle.journal.proofs.ledger.Ledger.leave.Goals as goal

pub returns-clause-shown : goal.returns-clause-shown
returns-clause-shown c = λ wait.
    let old = c.args.self.now.queues in
    let read = get_or_read_under old.items c.args.counter old.len c.index_mut.result.now [] c.index_mut.ensures.value c.requires old.ok.0 in
    let budgets = budget_less (λ k. hash.get nat_eq c.args.self.now.budgets k) (λ k. hash.get nat_eq c.insert.new.self k) c.args.seat c.args.counter wait
    (record { counter = c.budget-counter.result.counter; units = c.saturating_sub.result }) c.in_ok-insert.ensures.updates.0
    c.budget-counter.ensures.counter (c.saturating_sub.ensures ∙ ap (λ (x : ℕ). x - 1) c.budget-counter.ensures.units) in
    (λ i. record (shown c.args.self.now) {
      lists = λ k. (at_put old.items c.args.counter old.len c.remove_first.new.self [] c.requires old.ok.0 k
          ∙ ap (λ (x : List WaitId). put (λ (m : ℕ). get_or old.items m []) c.args.counter x k) (c.remove_first.ensures ∙ ap (drop 1) read)) i;
      budgets = λ k. budgets k i;
    })
