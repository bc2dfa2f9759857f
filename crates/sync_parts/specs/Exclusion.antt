-- When of the locks over one counter only one is held, and what two locks have that met.
use Rattle.std.specs.Prelude.{◌≡◌, ◌≢◌, ℕ, Bool, true, false, List, [], ◌∷◌, ◌++◌, slice_index}
use Rattle.step_table.specs.declared.entry.Entry.{Entry}
use Rattle.step_table.specs.declared.entry.Entry.TheVariants.{Add, Take}
use Rattle.step_table.specs.Journal.{plain_start, IsLawful}
use Rattle.step_table.specs.Path.{GoesOn}
use Rattle.sema_table.specs.Setting.{layout}
use Rattle.sema_table.specs.Seats.{TableModel}
use Rattle.sync_parts.specs.Lock.{LockModel, uses, lock_calls}

-- these uses of a counter by one seat are Take and Add in turn: it takes where it holds no unit, and adds
-- where it holds one
abbrev pub InTurn : Bool → List Entry → Type 0
InTurn holds [] = Unit {0}
InTurn false (Take c s ∷ rest) = InTurn true rest
InTurn true (Add c s ∷ rest) = InTurn false rest
InTurn holds (e ∷ rest) = ⊥

-- the counter started at 1, and only locks have used it: of each seat the journal tells Take and Add in turn,
-- a Take first
pub record OnlyLocks (t : TableModel) (c : ℕ) (journal : List Entry) : Type 0 where
  pub started : slice_index t.setting.starts c ≡ 1
  pub in_turn : (i : ℕ) → InTurn false (uses c i journal)

-- the last use of c by the seat i was to take a unit
abbrev pub HoldsUnit : ℕ → ℕ → List Entry → Type 0
HoldsUnit c i journal = (before : List Entry) × (uses c i journal ≡ before ++ Take c i ∷ [])

-- in a lawful journal in which only locks used a counter, no two seats hold its unit
abbrev pub TheLocks : Type 0
TheLocks =
    (t : TableModel) (c : ℕ) (journal : List Entry)
    → IsLawful (plain_start (layout t.setting).starts) journal → OnlyLocks t c journal
    → (i k : ℕ) → HoldsUnit c i journal → HoldsUnit c k journal → i ≡ k

-- it is the same lock, which has seen more and made no call
pub record HasLooked (l m : LockModel) : Type 0 where
  pub table : m.seat.table ≡ l.seat.table
  pub number : m.seat.number ≡ l.seat.number
  pub left : m.seat.left ≡ l.seat.left
  pub taken : m.seat.taken ≡ l.seat.taken
  pub is : m ≡ record l { seat = m.seat }
  pub later : GoesOn m.seat.sight.seen l.seat.sight.seen
  pub calls : lock_calls m ≡ lock_calls l

-- two locks of one counter met: they are of two seats, neither has used the counter meanwhile, both have seen
-- the same now, and if only locks used the counter in that, they aren't both held
pub record HaveMet (one other one_now other_now : LockModel) : Type 0 where
  pub one_looked : HasLooked one one_now
  pub other_looked : HasLooked other other_now
  pub two : one.seat.number ≢ other.seat.number
  pub same : one_now.seat.sight.seen ≡ other_now.seat.sight.seen
  pub one_holder : OnlyLocks one.seat.table one.counter one_now.seat.sight.seen
      → ¬ ((one_now.held ≡ true) × (other_now.held ≡ true))
