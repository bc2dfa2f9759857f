use Rattle.std.proofs.Common.{◌≡◌}
use Rattle.running_tests.proofs.tables.leaving_crew_tests.takes_turns.Given as goal

abbrev pub invariant-loop-turn : goal.invariant-loop-turn
invariant-loop-turn g l = l.seat.table ≡ l.fn.table
