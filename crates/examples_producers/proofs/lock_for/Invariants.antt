use Rattle.std.proofs.Common.{◌≡◌, ◌<◌, true}
use Rattle.examples_producers.proofs.lock_for.Given as goal

-- the lock is held and may still be released, and the seat is of this condition variable
abbrev pub invariant-loop : goal.invariant-loop
invariant-loop g l = (l.lock.held ≡ true) × (0 < l.lock.seat.left) × (l.seat.list ≡ l.fn.shared.cond.now)
