use Rattle.std.proofs.Common.{◌<◌, sym, subst}
use Rattle.examples.specs.declared.moves.Moves.{Moves}
use Rattle.examples.proofs.Weighing.{takes}
use Rattle.examples.proofs.bounded_queue.BoundedQueue.pop.Goals as goal

pub try_pop_as-requires-clause-rule : goal.try_pop_as-requires-clause-rule
try_pop_as-requires-clause-rule g c = takes _ _ (subst (λ (v : Moves). 0 < v.parts) (sym c.loop.invariant.1.1) c.requires.part)
