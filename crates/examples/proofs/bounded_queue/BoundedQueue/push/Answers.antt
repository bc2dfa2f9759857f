use Rattle.std.proofs.Common.{◌<◌, sym, subst}
use Rattle.examples.specs.declared.moves.Moves.{Moves}
use Rattle.examples.proofs.Weighing.{puts}
use Rattle.examples.proofs.bounded_queue.BoundedQueue.push.Goals as goal

pub try_push_as-requires-clause-rule : goal.try_push_as-requires-clause-rule
try_push_as-requires-clause-rule g c = puts _ _ _ _ (subst (λ (v : Moves). 0 < v.parts) (sym c.loop.invariant.1.1) c.requires.part)
