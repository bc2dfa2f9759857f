-- A lock over a counter: what a caller sees of it, and its calls as a list.
use Rattle.std.specs.Prelude.{◌≡◌, ℕ, ◌<◌, Bool, true, false, ◌&&◌, eqb, List, [], ◌∷◌, ◌++◌, length, map}
use Rattle.std.specs.Prelude.{Option, Some, None}
use Rattle.std.specs.List.{filter}
use Rattle.step_table.specs.declared.entry.Entry.{Entry}
use Rattle.step_table.specs.declared.entry.Entry.TheVariants.{Add, AddMany, Take}
use Rattle.step_table.specs.Journal.{takes}
use Rattle.sema_table.specs.Seats.{TableModel, SeatModel}
use Rattle.sema_table.specs.Making.{new_seat}
use Rattle.sync_parts.specs.declared.locker_call.LockerCall.{LockerCall}
use Rattle.sync_parts.specs.declared.locker_call.LockerCall.TheVariants.{Locked, Unlocked}

-- a lock: its seat, its counter, and whether it is held
pub record LockModel : Type 0 where
  pub seat : SeatModel
  pub counter : ℕ
  pub held : Bool

-- whether by the entry the seat i adds to the counter c, or a unit of c is taken for it
abbrev pub is_use : ℕ → ℕ → Entry → Bool
is_use c i (Add d s) = eqb d c && eqb s i
is_use c i (AddMany d n s) = eqb d c && eqb s i
is_use c i (Take d s) = eqb d c && eqb s i
is_use c i _ = false

-- the seat's entries on the counter, in their order, Queue and Leave aside
abbrev pub uses : ℕ → ℕ → List Entry → List Entry
uses c i journal = filter (is_use c i) journal

-- the calls of a lock, told from what its seat has seen: a Take for each time that it was locked, an Add for
-- each release
abbrev pub lock_calls : LockModel → List Entry
lock_calls l = uses l.counter l.seat.number l.seat.sight.seen

-- a call of a locker by its entry: a Take locks, and an Add unlocks
abbrev pub call_of : Entry → LockerCall
call_of (Take c s) = Locked
call_of _ = Unlocked

-- the calls of a lock as those of a locker
abbrev pub locker_calls : LockModel → List LockerCall
locker_calls l = map call_of (lock_calls l)

-- the last of its calls took a unit
abbrev pub TookLast : LockModel → Type 0
TookLast l = (before : List Entry) × (lock_calls l ≡ before ++ Take l.counter l.seat.number ∷ [])

-- the lock by what it keeps. Between two calls the seat is always there
abbrev pub seat_or : TableModel → Option SeatModel → SeatModel
seat_or t None = new_seat t 0
seat_or t (Some s) = s

abbrev pub lock_of : TableModel → Option SeatModel → ℕ → Bool → LockModel
lock_of t seat counter held = record { seat = seat_or t seat; counter = counter; held = held }

-- what it keeps: a seat of its table, for which the journal tells as many takes as it counts, and a counter
-- of the table. While it is held, the last of its calls took a unit
pub record IsLock (t : TableModel) (seat : Option SeatModel) (counter : ℕ) (held : Bool) : Type 0 where
  pub mine : SeatModel
  pub seat_is : seat ≡ Some mine
  pub own : mine.table ≡ t
  pub inside : counter < length t.setting.starts
  pub counted : takes mine.number mine.sight.seen ≡ mine.taken
  pub took : held ≡ true → TookLast (lock_of t seat counter held)
