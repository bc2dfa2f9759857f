use Rattle.std.proofs.Common.{arith, sym, subst, List, ◌+◌}
use Rattle.step_rows.specs.declared.list_machine.SeatRecord.{SeatRecord}
use Rattle.step_rows.specs.ListStored.{AreFresh}
use Rattle.step_rows.proofs.Opening.{none_yet, one_more_hand}
use Rattle.step_rows.proofs.list_machine.seats_at_rest.Goals as goal

pub open-requires : goal.open-requires
open-requires c = let fresh = c.loop.invariant.0.list_room in omega arith

pub loop-init : goal.loop-init
loop-init c = (
  subst (λ (l : List SeatRecord). AreFresh c.args.waits.now c.args.waits.now l 0) (sym c.in_ok-records.ensures.items) (none_yet c.args.waits.now),
  omega (arith, c.in_ok-records.ensures.capacity),
)

pub loop-preserved : goal.loop-preserved
loop-preserved c = (
  subst (λ (l : List SeatRecord). AreFresh c.args.waits.now c.open.new.self l (c.loop.counter + 1)) (sym c.push_reserved.ensures.items)
      (one_more_hand _ _ _ _ _ _ c.loop.invariant.0 c.open.ensures.was_closed c.open.ensures.opened c.open.ensures.room c.open.ensures.list_room),
  let room = c.loop.invariant.1 in omega (arith, c.push_reserved.ensures.capacity),
)
