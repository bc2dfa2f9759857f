use Rattle.std.proofs.Common.{ap, ◌∙◌, subst, ◌<◌, length}
use Rattle.step_table.specs.declared.place.ManyRow.TheVariants.{M3}
use Rattle.step_table.specs.declared.place.Place.TheVariants.{ReleasingMany}
use Rattle.sema_table.specs.Seats.{TableModel, SeatModel, seat_of}
use Rattle.sema_table.specs.Many.{IsWokenSeats, StillOwesMany}
use Rattle.sema_table.proofs.CallerTries.{stands_on}
use Rattle.sema_table.proofs.Trying.{held_midway, finds_held}
use Rattle.sema_table.proofs.CallerWakesMany.{wakes_these}
use Rattle.sema_table.proofs.sema_table.SemaTable.try_wake_some_with.Goals as goal

pub returns-clause-rows : goal.returns-clause-rows
returns-clause-rows g c =
    let s = c.owing.inside.token in let is = c.owing.invariant in let own = ap (λ (x : SeatModel). x.table) c.owing.view_is ∙ c.requires.seat in
    let o = c.wake_some_locked-seat.ensures s (record {
      token_is = is.midway.token_is;
      table_is = own;
      inside = subst (λ (y : TableModel). c.owing.inside.call.counter < length y.setting.starts) own is.midway.inside;
      locked = c.if-not-try_lock_many.ensures;
    }) in
    subst (λ (x : SeatModel). IsWokenSeats x c.wake_some_locked-seat.result c.wake_some_locked-seat.new.hand.items) c.owing.view_is (
      c.owing.inside.call,
      is.midway.at,
      o.0,
      o.1,
      o.2,
    )

pub returns-clause-caller : goal.returns-clause-caller
returns-clause-caller g c = wakes_these c.args.owing c.wake_some_locked-seat.result c.wake_some_locked-seat.new.hand.items (returns-clause-rows g c)

pub invariant_of-result : goal.invariant_of-result
invariant_of-result g c = let is = c.owing.invariant in let call = c.owing.inside.call in record {
  midway = held_midway c.owing.inside.token c.try_lock_many.new.token c.owing.inside.numbers call.counter c.if-not-try_lock_many.ensures
      is.midway.token_is call.counter (ReleasingMany call M3) is.midway;
  units = is.units;
}

pub returns-then-not-try_lock_many-clause-rows : goal.returns-then-not-try_lock_many-clause-rows
returns-then-not-try_lock_many-clause-rows g c =
    let is = c.owing.invariant in
    subst (λ (x : SeatModel). StillOwesMany x (seat_of c.try_lock_many.new.token c.owing.inside.numbers)) c.owing.view_is (
      c.owing.inside.call,
      is.midway.at,
      finds_held c.owing.inside.token c.try_lock_many.new.token c.owing.inside.numbers c.owing.inside.call.counter c.if-not-try_lock_many.ensures
          is.midway.token_is,
    )

pub returns-then-not-try_lock_many-clause-caller : goal.returns-then-not-try_lock_many-clause-caller
returns-then-not-try_lock_many-clause-caller g c =
    let still = returns-then-not-try_lock_many-clause-rows g c in
    stands_on c.args.owing (seat_of c.try_lock_many.new.token c.owing.inside.numbers) still.0.counter still.2
