use Rattle.std.proofs.Common.{◌≡◌, ◌<◌, length, sym, ap, ◌∙◌, subst}
use Rattle.step_table.specs.declared.place.AcquireRow.TheVariants.{Parked}
use Rattle.step_table.specs.declared.place.ParkedRow.TheVariants.{P}
use Rattle.step_table.specs.declared.place.Place.{Place}
use Rattle.step_table.specs.declared.place.Place.TheVariants.{Acquiring}
use Rattle.step_table.specs.World.{SeatState}
use Rattle.sema_table.specs.Seats.{SeatModel, TableModel, table_of, seat_of}
use Rattle.sema_table.specs.Calls.{IsAt}
use Rattle.sema_table.specs.Tries.{FindsHeld}
use Rattle.sema_table.specs.Leaving.{LeavesAtLock}
use Rattle.sema_table.proofs.CallerLeaves.{leaves_by, leaves, still_parked}
use Rattle.sema_table.proofs.Trying.{held_midway, finds_held}
use Rattle.sema_table.proofs.sema_table.SemaTable.try_leave_with.Goals as goal

pub returns-in-Err-clause-caller : goal.returns-in-Err-clause-caller
returns-in-Err-clause-caller g c = leaves c.args.sleeping c.in-Err.gave_up c.in-Err.ensures.0

pub invariant_of-result : goal.invariant_of-result
invariant_of-result g c =
    let n = c.asleep.inside in
    held_midway n.token c.try_lock.new.token n.numbers n.call.counter c.if-not-try_lock.ensures c.asleep.invariant.token_is n.call.counter
    (Acquiring n.call (Parked n.turn P)) c.asleep.invariant

pub returns-then-not-try_lock-clause-rows : goal.returns-then-not-try_lock-clause-rows
returns-then-not-try_lock-clause-rows g c =
    let n = c.asleep.inside in let u = c.in-Ok.asleep in let looked = c.in-Ok.ensures.0 in
    let parked : Place = Acquiring n.call (Parked n.turn P) in
    let at : IsAt u parked = subst (λ (y : SeatModel). IsAt y parked) c.asleep.view_is c.asleep.invariant.at in (
      u,
      looked,
      (
        n.call,
        n.turn,
        ap (λ (y : SeatState). y.place) (sym looked.3.stays) ∙ at,
        subst (λ (y : SeatModel). FindsHeld y n.call.counter (seat_of c.try_lock.new.token n.numbers)) c.asleep.view_is
            (finds_held n.token c.try_lock.new.token n.numbers n.call.counter c.if-not-try_lock.ensures c.asleep.invariant.token_is),
      ),
    )

pub returns-then-not-try_lock-clause-caller : goal.returns-then-not-try_lock-clause-caller
returns-then-not-try_lock-clause-caller g c = still_parked c.args.sleeping (seat_of c.try_lock.new.token c.asleep.inside.numbers)
    (returns-then-not-try_lock-clause-rows g c)

pub returns-clause-rows : goal.returns-clause-rows
returns-clause-rows g c =
    let n = c.asleep.inside in let looked = c.in-Ok.ensures.0 in let is = c.asleep.invariant in
    let of : table_of n.token ≡ c.args.self.now = ap (λ (y : SeatModel). y.table) (c.asleep.view_is ∙ looked.3.same) ∙ c.requires.seat in
    leaves_by c.args.sleeping c.in-Ok.asleep c.leave_locked.result looked
    (subst (λ (y : SeatModel). LeavesAtLock y c.leave_locked.result) c.asleep.view_is
    (c.leave_locked.ensures n.token (record {
      token_is = is.token_is;
      table_is = of;
      inside = subst (λ (y : TableModel). n.call.counter < length y.setting.starts) of is.inside;
      locked = c.if-not-try_lock.ensures;
    }) is.at))

pub returns-clause-caller : goal.returns-clause-caller
returns-clause-caller g c = leaves c.args.sleeping c.leave_locked.result (returns-clause-rows g c)
