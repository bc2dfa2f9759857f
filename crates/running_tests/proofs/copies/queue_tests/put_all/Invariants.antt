use Rattle.examples.specs.Queue.{IsOf}
use Rattle.running_tests.proofs.copies.queue_tests.put_all.Given as goal

abbrev pub invariant-loop-count : goal.invariant-loop-count
invariant-loop-count g l = IsOf l.queue l.worker
