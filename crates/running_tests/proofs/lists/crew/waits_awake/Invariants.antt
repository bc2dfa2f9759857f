use Rattle.std.proofs.Common.{◌≡◌}
use Rattle.running_tests.proofs.lists.crew.waits_awake.Given as goal

abbrev pub invariant-loop : goal.invariant-loop
invariant-loop g l = l.holding.list ≡ l.fn.list
