-- Steps by the step table, or by a change of it.
use Rattle.std.specs.Prelude.{◌≡◌, ℕ, List, Option, Some, None, length}
use Rattle.step_table.specs.declared.entry.Entry.{Entry}
use Rattle.step_table.specs.declared.parts.Parts.{Parts}
use Rattle.step_law_alike.specs.declared.variant.Variant.{Variant}
use Rattle.step_law_alike.specs.Changed.{changed_stepped}
use Rattle.step_table.specs.Run.{Run, stepped}
use Rattle.step_core.specs.State.{WholeMachine, Moment, State, AreSameSize, and_then, run_with, run_of, telling}
use Rattle.step_core.specs.WellFormed.{IsSoundBy}

-- the run after a step of seat i
abbrev pub stepped_by : Option Variant → Parts → Run → ℕ → Run
stepped_by None parts run i = stepped parts run i
stepped_by (Some v) parts run i = changed_stepped v parts run i

-- the seat has run its row, which told this, and has begun its next call where that ended one: with each
-- journal, its run is the one after a step of the seat
pub record HasStepped (table : Option Variant) (parts : Parts) (i : ℕ) (h : WholeMachine) (counts : List ℕ)
    (k : WholeMachine)
    (now : List ℕ) (entry : Option Entry) : Type 0 where
  pub alike : AreSameSize h k
  pub count : length now ≡ length counts
  pub run : (journal : List Entry)
      → run_with k now (and_then journal entry) ≡ stepped_by table parts (run_with h counts journal) i

-- the run steps: the same scenario, and the run after a step of the seat
pub record IsSteppedBy (table : Option Variant) (m : State) (s : ℕ) (n : State) : Type 0 where
  pub parts : n.parts ≡ m.parts
  pub run : run_of n ≡ stepped_by table m.parts (run_of m) s

abbrev pub IsStepped : State → ℕ → State → Type 0
IsStepped m s n = IsSteppedBy None m s n

-- the moment steps by its table, and the step tells this: so it is with each journal behind it, and what was
-- true of the run with that stays true
pub record Steps (m : Moment) (s : ℕ) (n : Moment) (entry : Option Entry) : Type 0 where
  pub table : n.table ≡ m.table
  pub steps : (journal : List Entry)
      → IsSteppedBy m.table (telling m journal) s (telling n (and_then journal entry))
  pub sound : (journal : List Entry)
      → IsSoundBy m.table (telling m journal) → IsSoundBy m.table (telling n (and_then journal entry))

-- the moment steps by its table, whatever that tells
abbrev pub HasStep : Moment → ℕ → Moment → Type 0
HasStep m s n = (entry : Option Entry) × Steps m s n entry

-- the moment steps by a change of the table
abbrev pub IsChanged : Moment → Type 0
IsChanged m = (v : Variant) × (m.table ≡ Some v)
