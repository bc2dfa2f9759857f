use Rattle.std.proofs.Common.{ℕ, ap, ◌∙◌, subst}
use Rattle.notify_list.specs.Seats.{SeatModel, seat_of}
use Rattle.notify_list.specs.Meeting.{FindsHeld}
use Rattle.notify_list.proofs.LookingTogether.{held_holding, finds_held}
use Rattle.notify_list.proofs.CallersEnding.{stands_on}
use Rattle.notify_list.proofs.Answering.{is_sound}
use Rattle.notify_list.proofs.Queueing.{may_wait}
use Rattle.notify_list.proofs.notify_list.NotifyList.try_wait_with.Goals as goal

pub try_lock-requires : goal.try_lock-requires
try_lock-requires g c = let s = c.holding.inside.token in let n : ℕ = c.holding.inside.number in
    may_wait s n c.holding.inside.ticket c.holding.invariant c.args.self.now (ap (λ (y : SeatModel). y.list) c.holding.view_is ∙ c.requires.seat)

pub invariant_of-result : goal.invariant_of-result
invariant_of-result g c =
    held_holding c.holding.inside.token c.try_lock.new.token c.holding.inside.number c.if-try_lock.ensures c.holding.inside.ticket c.holding.invariant

pub returns-clause-rows : goal.returns-clause-rows
returns-clause-rows g c =
    subst (λ (q : SeatModel). FindsHeld q (seat_of c.try_lock.new.token c.holding.inside.number)) c.holding.view_is
    (finds_held c.holding.inside.token c.try_lock.new.token c.holding.inside.number c.if-try_lock.ensures c.holding.invariant.token_is)

pub returns-clause-caller : goal.returns-clause-caller
returns-clause-caller g c = let t = c.try_lock.new.token in let n : ℕ = c.holding.inside.number in
    stands_on c.args.holding (seat_of t n) (is_sound t n (invariant_of-result g c).token_is).lawful (returns-clause-rows g c)
