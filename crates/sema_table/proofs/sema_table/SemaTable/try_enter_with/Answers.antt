use Rattle.std.proofs.Common.{rules, subst}
use Rattle.sema_table.specs.Seats.{SeatModel, seat_of}
use Rattle.sema_table.specs.Tries.{FindsHeld}
use Rattle.sema_table.specs.Waking.{acquire_of}
use Rattle.sema_table.proofs.CallerEnters.{enters}
use Rattle.sema_table.proofs.CallerTries.{stands_on}
use Rattle.sema_table.proofs.Trying.{held_seat, finds_held}
use Rattle.sema_table.proofs.sema_table.SemaTable.try_enter_with.Goals as goal

pub returns-clause-rows : goal.returns-clause-rows
returns-clause-rows g c = search rules

pub returns-clause-caller : goal.returns-clause-caller
returns-clause-caller g c = enters c.args.seat (acquire_of c.args.counter c.args.lifo) c.enter_locked.result (returns-clause-rows g c)

pub invariant_of-result : goal.invariant_of-result
invariant_of-result g c = held_seat c.seat.inside.token c.try_lock.new.token c.seat.inside.numbers c.args.counter c.if-not-try_lock.ensures c.seat.invariant

pub returns-then-not-try_lock-clause-rows : goal.returns-then-not-try_lock-clause-rows
returns-then-not-try_lock-clause-rows g c =
    subst (λ (x : SeatModel). FindsHeld x c.args.counter (seat_of c.try_lock.new.token c.seat.inside.numbers)) c.seat.view_is
    (finds_held c.seat.inside.token c.try_lock.new.token c.seat.inside.numbers c.args.counter c.if-not-try_lock.ensures c.seat.invariant.token_is)

pub returns-then-not-try_lock-clause-caller : goal.returns-then-not-try_lock-clause-caller
returns-then-not-try_lock-clause-caller g c = stands_on c.args.seat (seat_of c.try_lock.new.token c.seat.inside.numbers) c.args.counter
    (returns-then-not-try_lock-clause-rows g c)
