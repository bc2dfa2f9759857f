use Rattle.std.proofs.Common.{◌<◌, sym, ap, subst}
use Rattle.examples.specs.Parts.{TallyModel}
use Rattle.examples.proofs.Weighing.{forks}
use Rattle.examples.proofs.bounded_queue.BoundedQueue.enter.Goals as goal

pub another-pass-requires-clause-rule : goal.another-pass-requires-clause-rule
another-pass-requires-clause-rule c =
    let parts = ap (λ (t : TallyModel). t.moves.parts) c.tally.view_is in
    forks _ _ (subst (λ n. 1 < n) (sym parts) c.requires.parts)
