use Rattle.std.proofs.Common.{[], ap, ◌∙◌}
use Rattle.seat_pool.specs.Rule.{without_loans}
use Rattle.seat_pool.proofs.Keeping.{forks, takes, has_room}
use Rattle.seat_pool.proofs.pool.SeatPool.take_seat.Goals as goal

pub another-pass-requires-clause-rule : goal.another-pass-requires-clause-rule
another-pass-requires-clause-rule g c =
    let own = c.borrower.invariant.1 in
    forks g.T.Lendable.home g.T.Lendable.number g.T.Lendable.rests g.T.Lendable.count _ _ own.0 _ own.1

pub pop_as-requires-clause-rule : goal.pop_as-requires-clause-rule
pop_as-requires-clause-rule g c =
    let own = c.borrower.invariant.1 in (
      takes g.T.Lendable.home g.T.Lendable.number g.T.Lendable.rests g.T.Lendable.count _ _ own.0 []
          (c.another-pass.ensures.rule.1 ∙ ap without_loans own.1),
      has_room g.T.Lendable.home g.T.Lendable.number g.T.Lendable.rests g.T.Lendable.count _ _,
    )
