use Rattle.examples.proofs.Weighing.{merges}
use Rattle.examples.proofs.bounded_queue.BoundedQueue.leave.Goals as goal

pub absorb-requires-clause-rule : goal.absorb-requires-clause-rule
absorb-requires-clause-rule c = merges _ _ _ _ c.tally.invariant.1
