use Rattle.std.proofs.Common.{ℕ, ap, ◌∙◌, subst}
use Rattle.notify_list.specs.Seats.{SeatModel}
use Rattle.notify_list.specs.Entering.{MayEnter}
use Rattle.notify_list.specs.Waiting.{IsEntered}
use Rattle.notify_list.specs.Callers.{EntersWait}
use Rattle.notify_list.proofs.Queueing.{may_wait}
use Rattle.notify_list.proofs.notify_list.NotifyList.queue.Goals as goal

pub lock-requires : goal.lock-requires
lock-requires g c = let s = c.holding.inside.token in let n : ℕ = c.holding.inside.number in
    may_wait s n c.holding.inside.ticket c.holding.invariant c.args.self.now (ap (λ (y : SeatModel). y.list) c.holding.view_is ∙ c.requires)

pub returns-clause-rows : goal.returns-clause-rows
returns-clause-rows g c =
    let s = c.holding.inside.token in let n : ℕ = c.holding.inside.number in
    let may : MayEnter c.args.self.now s n c.holding.inside.ticket c.lock.new.token = record {
      holding = c.holding.invariant;
      list_is = ap (λ (y : SeatModel). y.list) c.holding.view_is ∙ c.requires;
      locked = c.lock.ensures;
    } in
    subst (λ (y : SeatModel). IsEntered y c.enter.result) c.holding.view_is (c.enter.ensures.rows s may)

pub returns-clause-caller : goal.returns-clause-caller
returns-clause-caller g c =
    let s = c.holding.inside.token in let n : ℕ = c.holding.inside.number in
    let may : MayEnter c.args.self.now s n c.holding.inside.ticket c.lock.new.token = record {
      holding = c.holding.invariant;
      list_is = ap (λ (y : SeatModel). y.list) c.holding.view_is ∙ c.requires;
      locked = c.lock.ensures;
    } in
    subst (λ (y : SeatModel). EntersWait y c.enter.result) c.holding.view_is (c.enter.ensures.caller s may)
