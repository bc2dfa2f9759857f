use Rattle.std.proofs.Common.{◌≡◌}
use Rattle.running_tests.proofs.tables.leaving_crew_tests.sleeps_for_a_while.Given as goal

abbrev pub invariant-loop : goal.invariant-loop
invariant-loop g l = l.asleep.table ≡ l.fn.table
