use Rattle.std.proofs.Common.{◌≡◌}
use Rattle.bench.proofs.forks.release_all.Given as goal

abbrev pub invariant-loop-counter : goal.invariant-loop-counter
invariant-loop-counter g l = l.seat.table ≡ l.fn.table
