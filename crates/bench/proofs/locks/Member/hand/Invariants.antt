use Rattle.std.proofs.Common.{◌≡◌, true}
use Rattle.bench.proofs.locks.Member.hand.Given as goal

abbrev pub invariant-loop : goal.invariant-loop
invariant-loop g l = (l.seat.list ≡ l.hall.called) × (l.lock.held ≡ true)
