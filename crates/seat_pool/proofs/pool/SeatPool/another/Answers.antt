use Rattle.seat_pool.proofs.Keeping.{forks}
use Rattle.seat_pool.proofs.pool.SeatPool.another.Goals as goal

pub another-pass-requires-clause-rule : goal.another-pass-requires-clause-rule
another-pass-requires-clause-rule g c =
    let own = c.borrower.invariant.1 in
    forks g.T.Lendable.home g.T.Lendable.number g.T.Lendable.rests g.T.Lendable.count _ _ own.0 _ own.1
