use Rattle.std.proofs.Common.{◌≡◌}
use Rattle.running_tests.proofs.lists.hurried_crew_tests.waits_on.Given as goal

abbrev pub invariant-loop-round : goal.invariant-loop-round
invariant-loop-round g l = l.seat.list ≡ l.fn.list
