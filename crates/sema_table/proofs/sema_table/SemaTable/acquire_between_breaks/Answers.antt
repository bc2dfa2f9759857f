use Rattle.std.proofs.Common.{false, ap, inl, inr, ◌∙◌}
use Rattle.sema_table.specs.Seats.{SeatModel}
use Rattle.sema_table.proofs.Acquiring.{same_on, taken_after, none_after, acquired_after, on_after}
use Rattle.sema_table.proofs.sema_table.SemaTable.acquire_between_breaks.Goals as goal

pub try_at_sight-requires : goal.try_at_sight-requires
try_at_sight-requires g c = (
  ap (λ (q : SeatModel). q.table) (same_on c.args.seat c.loop-turn.seat c.loop-turn.seat c.args.counter c.loop-turn.invariant) ∙ c.requires.0,
  c.requires.1,
)

pub returns-in-Taken : goal.returns-in-Taken
returns-in-Taken g c = inl (taken_after c.args.seat c.loop-turn.seat c.try_at_sight.new.seat c.args.counter false c.loop-turn.invariant c.in-Taken.ensures)

pub acquire_at_lock-requires : goal.acquire_at_lock-requires
acquire_at_lock-requires g c = (
  ap (λ (q : SeatModel). q.table) (none_after c.args.seat c.loop-turn.seat c.try_at_sight.new.seat c.args.counter false c.loop-turn.invariant
      c.try_at_sight.new.seat c.in-Zero.ensures).0 ∙ c.requires.0,
  c.requires.1,
)

pub returns-in-Zero : goal.returns-in-Zero
returns-in-Zero g c = inr (
  c.try_at_sight.new.seat,
  none_after c.args.seat c.loop-turn.seat c.try_at_sight.new.seat c.args.counter false c.loop-turn.invariant c.try_at_sight.new.seat c.in-Zero.ensures,
  c.acquire_at_lock.ensures,
)

pub loop-turn-preserved : goal.loop-turn-preserved
loop-turn-preserved g c = on_after c.args.seat c.loop-turn.seat c.try_at_sight.new.seat c.args.counter c.loop-turn.invariant c.in-Lost.ensures

pub acquire_again-requires : goal.acquire_again-requires
acquire_again-requires g c = (
  ap (λ (q : SeatModel). q.table) (same_on c.args.seat c.loop-turn.seat c.loop-turn.seat c.args.counter c.loop-turn.invariant) ∙ c.requires.0,
  c.requires.1,
)

pub returns : goal.returns
returns g c = acquired_after c.args.seat c.loop-turn.seat c.acquire_again.result c.args.counter false c.loop-turn.invariant c.acquire_again.ensures
