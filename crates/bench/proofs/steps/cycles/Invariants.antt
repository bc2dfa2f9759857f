use Rattle.std.proofs.Common.{◌≡◌}
use Rattle.bench.proofs.steps.cycles.Given as goal

abbrev pub invariant-loop : goal.invariant-loop
invariant-loop g l = (l.first.table ≡ l.fn.table) × (l.second.table ≡ l.fn.table)
