use Rattle.std.proofs.Common.{ap, ◌∙◌, subst}
use Rattle.examples.specs.Parts.{QueueModel, TallyModel}
use Rattle.examples.specs.Queue.{AreLeftOf}
use Rattle.examples.proofs.Weighing.{learns, left_of}
use Rattle.examples.proofs.bounded_queue.BoundedQueue.audit.Goals as goal

pub len_as-requires-clause-rule : goal.len_as-requires-clause-rule
len_as-requires-clause-rule g c = learns _ _ (ap (λ (t : TallyModel). t.moves.parts) c.tally.view_is ∙ c.requires.all)

pub returns-clause-left : goal.returns-clause-left
returns-clause-left g c =
    subst (λ (p : QueueModel × TallyModel). AreLeftOf p.0 p.1 c.len_as.result) (λ i. (c.self.view_is i, c.tally.view_is i))
    (left_of _ _ c.len_as.result c.len_as.ensures.rule.0 c.len_as.ensures.rule.1)
