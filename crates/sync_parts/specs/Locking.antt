-- What the calls of a lock are to its caller.
use Rattle.std.specs.Prelude.{◌≡◌, ◌⊎◌, ℕ, ◌+◌, true, false, [], ◌∷◌, ◌++◌}
use Rattle.step_table.specs.declared.entry.Entry.{Entry}
use Rattle.step_table.specs.declared.entry.Entry.TheVariants.{Add, Take}
use Rattle.step_table.specs.Path.{GoesOn}
use Rattle.sema_table.specs.Seats.{SeatModel}
use Rattle.sema_table.specs.Calls.{plain_seen}
use Rattle.sync_parts.specs.Lock.{LockModel, lock_calls}

-- a lock over this counter that isn't held
abbrev pub new_lock : SeatModel → ℕ → LockModel
new_lock s c = record { seat = s; counter = c; held = false }

-- it is the same lock, which has seen more. Its calls are those that it had made, and this one
pub record HasCalled (l : LockModel) (call : Entry) (m : LockModel) : Type 0 where
  pub table : m.seat.table ≡ l.seat.table
  pub number : m.seat.number ≡ l.seat.number
  pub counter : m.counter ≡ l.counter
  pub later : GoesOn m.seat.sight.seen l.seat.sight.seen
  pub calls : lock_calls m ≡ lock_calls l ++ call ∷ []

-- one unit was taken for the seat, and the lock is held. The seat may release as often as before
pub record HasLocked (l m : LockModel) : Type 0 where
  pub called : HasCalled l (Take l.counter l.seat.number) m
  pub left : m.seat.left ≡ l.seat.left
  pub taken : m.seat.taken ≡ l.seat.taken + 1
  pub held : m.held ≡ true

-- the seat added one unit, and the lock isn't held. The seat may release once less
pub record HasUnlocked (l m : LockModel) : Type 0 where
  pub called : HasCalled l (Add l.counter l.seat.number) m
  pub left : m.seat.left + 1 ≡ l.seat.left
  pub taken : m.seat.taken ≡ l.seat.taken
  pub held : m.held ≡ false

-- the seat may release as often as before, or once less, since it withdrew a wait
abbrev pub MayHaveWithdrawn : LockModel → LockModel → Type 0
MayHaveWithdrawn l m = (m.seat.left ≡ l.seat.left) ⊎ (m.seat.left + 1 ≡ l.seat.left)

-- one unit was taken for the seat in time, and the lock is held
pub record HasLockedInTime (l m : LockModel) : Type 0 where
  pub called : HasCalled l (Take l.counter l.seat.number) m
  pub left : MayHaveWithdrawn l m
  pub taken : m.seat.taken ≡ l.seat.taken + 1
  pub held : m.held ≡ true

-- no unit was taken, and there is none after all that is seen now. The lock isn't held, and has made no call
pub record HasTimedOut (l m : LockModel) : Type 0 where
  pub table : m.seat.table ≡ l.seat.table
  pub number : m.seat.number ≡ l.seat.number
  pub counter : m.counter ≡ l.counter
  pub later : GoesOn m.seat.sight.seen l.seat.sight.seen
  pub calls : lock_calls m ≡ lock_calls l
  pub left : MayHaveWithdrawn l m
  pub taken : m.seat.taken ≡ l.seat.taken
  pub none : (plain_seen m.seat).numbers m.counter ≡ 0
  pub held : m.held ≡ false
