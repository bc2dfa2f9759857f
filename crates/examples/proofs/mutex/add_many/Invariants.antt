use Rattle.std.proofs.Common.{◌≡◌, ◌+◌, ◌≤◌, false}
use Rattle.sync_parts.specs.Locking.{new_lock}
use Rattle.examples.specs.Mutex.{HasHeld, RunsTurn, Often}
use Rattle.examples.proofs.mutex.add_many.Given as goal

-- so many turns have run
abbrev pub invariant-loop-turn : goal.invariant-loop-turn
invariant-loop-turn g l =
    (l.lock.held ≡ false) × (l.lock.seat.table ≡ l.table) × (l.lock.seat.number ≡ l.fn.seat.number)
    × (l._turn ≤ l.turns) × Often HasHeld l._turn (new_lock l.fn.seat 0) l.lock
    × Often RunsTurn l._turn (new_lock l.fn.seat 0) l.lock
    × (l.lock.seat.left + l._turn ≡ l.fn.seat.left) × (l.lock.seat.taken ≡ l.fn.seat.taken + l._turn)
