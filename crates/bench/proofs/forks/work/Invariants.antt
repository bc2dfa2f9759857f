use Rattle.std.proofs.Common.{◌≡◌}
use Rattle.bench.proofs.forks.work.Given as goal

abbrev pub invariant-loop : goal.invariant-loop
invariant-loop g l = (l.seat.group ≡ l.fn.group) × (l.begins.table ≡ l.fn.table)
