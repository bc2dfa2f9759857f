use Rattle.std.proofs.Common.{◌≡◌}
use Rattle.running_tests.proofs.lists.crew.polls_on.Given as goal

abbrev pub invariant-loop : goal.invariant-loop
invariant-loop g l = l.parked.list ≡ l.fn.list
