use Rattle.std.proofs.Common.{◌≡◌}
use Rattle.bench.proofs.steps.rouse.Given as goal

abbrev pub invariant-loop : goal.invariant-loop
invariant-loop g l = l.sleeping.table ≡ l.fn.table
