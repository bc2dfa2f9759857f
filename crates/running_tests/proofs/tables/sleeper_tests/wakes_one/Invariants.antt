use Rattle.std.proofs.Common.{◌≡◌}
use Rattle.running_tests.proofs.tables.sleeper_tests.wakes_one.Given as goal

abbrev pub invariant-loop : goal.invariant-loop
invariant-loop g l = l.owing.table ≡ l.fn.table
