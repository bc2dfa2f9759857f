use Rattle.std.proofs.Common.{◌≡◌}
use Rattle.bench.proofs.steps.pairs.Given as goal

abbrev pub invariant-loop-seat : goal.invariant-loop-seat
invariant-loop-seat g l = l.seat.table ≡ l.fn.table

abbrev pub decreases-loop-seat : goal.decreases-loop-seat
decreases-loop-seat g l = l.seat.left
