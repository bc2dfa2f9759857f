use Rattle.std.proofs.Common.{◌≡◌, true}
use Rattle.bench.proofs.locks.await_word.Given as goal

abbrev pub invariant-loop : goal.invariant-loop
invariant-loop g l = (l.seat.list ≡ l.fn.cond) × (l.lock.held ≡ true)
