-- What turns under a lock are.
use Rattle.std.specs.Prelude.{◌≡◌, ℕ, zero, suc, ◌+◌, min}
use Rattle.sync_parts.specs.TableSeats.{SeatModel}
use Rattle.sync_parts.specs.Lock.{LockModel}
use Rattle.sync_parts.specs.Locking.{new_lock, HasLocked, HasUnlocked}
use Rattle.sync_parts.specs.LockRows.{RunsAcquire, RunsRelease}

-- the lock was taken, and given back
abbrev pub HasHeld : LockModel → LockModel → Type 0
HasHeld free freed = (held : LockModel) × HasLocked free held × HasUnlocked held freed

-- the same, and the rows of both
abbrev pub RunsTurn : LockModel → LockModel → Type 0
RunsTurn free freed =
    (held : LockModel) × HasLocked free held × RunsAcquire free held × HasUnlocked held freed
    × RunsRelease held freed

-- so many turns, one after the other
abbrev pub Often : (LockModel → LockModel → Type 0) → ℕ → LockModel → LockModel → Type 0
Often Turn zero free freed = freed ≡ free
Often Turn (suc n) free freed = (between : LockModel) × Often Turn n free between × Turn between freed

-- the seat has locked counter 0 and released it so many times, or as often as it might release
pub record HasAdded (times : ℕ) (s t : SeatModel) : Type 0 where
  pub turns : ℕ
  pub turns_are : turns ≡ min times s.left
  pub lock : LockModel
  pub ran : Often HasHeld turns (new_lock s 0) lock
  pub seat_is : lock.seat ≡ t
  pub left : t.left + turns ≡ s.left
  pub taken : t.taken ≡ s.taken + turns

-- these turns, with their rows
pub record RunsTurns (times : ℕ) (s t : SeatModel) : Type 0 where
  pub turns : ℕ
  pub turns_are : turns ≡ min times s.left
  pub lock : LockModel
  pub ran : Often RunsTurn turns (new_lock s 0) lock
  pub seat_is : lock.seat ≡ t
