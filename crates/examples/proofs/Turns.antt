-- What a turn under a lock does to the counts of its seat.
use Rattle.std.proofs.Common.{◌≡◌, ◌+◌, ◌∙◌}
use Rattle.sync_parts.specs.Lock.{LockModel}
use Rattle.examples.specs.Mutex.{HasHeld}

-- it takes one unit, and gives one back
pub turn_taken : (free freed : LockModel) → HasHeld free freed → freed.seat.taken ≡ free.seat.taken + 1
turn_taken free freed (held, locked, unlocked) = unlocked.taken ∙ locked.taken

pub turn_left : (free freed : LockModel) → HasHeld free freed → freed.seat.left + 1 ≡ free.seat.left
turn_left free freed (held, locked, unlocked) = unlocked.left ∙ locked.left
