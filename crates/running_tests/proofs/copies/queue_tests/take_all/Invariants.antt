use Rattle.examples.specs.Queue.{IsOf}
use Rattle.running_tests.proofs.copies.queue_tests.take_all.Given as goal

abbrev pub invariant-loop : goal.invariant-loop
invariant-loop g l = IsOf l.queue l.worker
