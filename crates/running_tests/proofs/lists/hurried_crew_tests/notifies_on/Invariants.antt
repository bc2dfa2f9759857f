use Rattle.std.proofs.Common.{◌≡◌}
use Rattle.running_tests.proofs.lists.hurried_crew_tests.notifies_on.Given as goal

abbrev pub invariant-loop : goal.invariant-loop
invariant-loop g l = l.seat.list ≡ l.fn.list
