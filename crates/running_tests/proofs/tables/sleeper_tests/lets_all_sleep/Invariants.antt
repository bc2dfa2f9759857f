use Rattle.std.proofs.Common.{◌≡◌}
use Rattle.running_tests.proofs.tables.sleeper_tests.lets_all_sleep.Given as goal

abbrev pub invariant-loop : goal.invariant-loop
invariant-loop g l = l.seat.table ≡ l.fn.table
