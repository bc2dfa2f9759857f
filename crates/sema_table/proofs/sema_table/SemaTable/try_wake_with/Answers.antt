use Rattle.std.proofs.Common.{rules, subst}
use Rattle.step_table.specs.declared.place.ReleaseRow.TheVariants.{R3}
use Rattle.sema_table.specs.Seats.{SeatModel, seat_of}
use Rattle.sema_table.specs.Tries.{releasing}
use Rattle.sema_table.specs.Waking.{StillOwes}
use Rattle.sema_table.proofs.CallerWakes.{wakes}
use Rattle.sema_table.proofs.CallerTries.{stands_on}
use Rattle.sema_table.proofs.Trying.{held_midway, finds_held}
use Rattle.sema_table.proofs.sema_table.SemaTable.try_wake_with.Goals as goal

pub returns-clause-rows : goal.returns-clause-rows
returns-clause-rows g c = (c.owing.inside.counter, search rules, search rules, search rules, search rules)

pub returns-clause-caller : goal.returns-clause-caller
returns-clause-caller g c = wakes c.args.owing c.wake_locked.result.0 c.args.handoff c.wake_locked.result.1 (returns-clause-rows g c)

pub invariant_of-result : goal.invariant_of-result
invariant_of-result g c =
    held_midway c.owing.inside.token c.try_lock_released.new.token c.owing.inside.numbers c.owing.inside.counter c.if-not-try_lock_released.ensures
    c.owing.invariant.token_is c.owing.inside.counter (releasing c.owing.inside.counter R3) c.owing.invariant

pub returns-then-not-try_lock_released-clause-rows : goal.returns-then-not-try_lock_released-clause-rows
returns-then-not-try_lock_released-clause-rows g c =
    subst (λ (x : SeatModel). StillOwes x (seat_of c.try_lock_released.new.token c.owing.inside.numbers)) c.owing.view_is (
      c.owing.inside.counter,
      c.owing.invariant.at,
      finds_held c.owing.inside.token c.try_lock_released.new.token c.owing.inside.numbers c.owing.inside.counter c.if-not-try_lock_released.ensures
          c.owing.invariant.token_is,
    )

pub returns-then-not-try_lock_released-clause-caller : goal.returns-then-not-try_lock_released-clause-caller
returns-then-not-try_lock_released-clause-caller g c =
    let still = returns-then-not-try_lock_released-clause-rows g c in
    stands_on c.args.owing (seat_of c.try_lock_released.new.token c.owing.inside.numbers) still.0 still.2
