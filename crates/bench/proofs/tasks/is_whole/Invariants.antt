use Rattle.std.proofs.Common.{◌≡◌}
use Rattle.bench.proofs.tasks.is_whole.Given as goal

abbrev pub invariant-loop-number : goal.invariant-loop-number
invariant-loop-number l = l.seat.seat.table ≡ l.table
