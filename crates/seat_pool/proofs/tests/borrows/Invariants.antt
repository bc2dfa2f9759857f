use Rattle.std.proofs.Common.{◌≡◌}
use Rattle.seat_pool.proofs.tests.borrows.Given as goal

abbrev pub invariant-loop : goal.invariant-loop
invariant-loop g l = l.borrower.pool ≡ l.pool
