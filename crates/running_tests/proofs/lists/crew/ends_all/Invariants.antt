use Rattle.std.proofs.Common.{◌≡◌}
use Rattle.running_tests.proofs.lists.crew.ends_all.Given as goal

abbrev pub invariant-loop : goal.invariant-loop
invariant-loop g l = l.owing.list ≡ l.fn.list
