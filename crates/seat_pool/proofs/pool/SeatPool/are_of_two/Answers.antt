use Rattle.std.proofs.Common.{◌∷◌, [], ◌∙◌}
use Rattle.seat_pool.specs.Rule.{together}
use Rattle.seat_pool.proofs.Keeping.{merges, parts, are_apart}
use Rattle.seat_pool.proofs.pool.SeatPool.are_of_two.Goals as goal

pub absorb-requires-clause-rule : goal.absorb-requires-clause-rule
absorb-requires-clause-rule g c =
    let one = c.one.invariant.1 in let other = c.other.invariant.1 in
    merges g.T.Lendable.home g.T.Lendable.number g.T.Lendable.rests g.T.Lendable.count _ _ _ _ one.0 other.0 _ _ one.2 other.2

pub learn_as-requires-clause-rule : goal.learn_as-requires-clause-rule
learn_as-requires-clause-rule g c =
    are_apart g.T.Lendable.home g.T.Lendable.number g.T.Lendable.rests g.T.Lendable.count _ _

pub another-pass-requires-clause-rule : goal.another-pass-requires-clause-rule
another-pass-requires-clause-rule g c =
    let one = c.one.invariant.1 in let other = c.other.invariant.1 in
    parts g.T.Lendable.home g.T.Lendable.number g.T.Lendable.rests g.T.Lendable.count _ _ one.0 one.1 (other.1 ∷ [])
    (c.learn_as.ensures.queue.1 ∙ c.absorb.ensures.rule ∙ (λ i. together (one.2 i) (other.2 i)))
