-- What is true of a lock program at each moment, and one row of it.
use Rattle.std.specs.Prelude.{◌≡◌, ◌<◌, ◌≤◌, ◌^◌, ℕ, List, Some, None, length, slice_get}
use Rattle.program_code.specs.declared.instruction.Instruction.{Instruction}
use Rattle.program_code.specs.declared.program.CodeLine.{CodeLine}
use Rattle.program_code.specs.declared.program.Program.{Program}
use Rattle.program_code.specs.WellFormed.{IsWellFormed, IsFew}
use Rattle.program_machine.specs.Layer.{parts_of}
use Rattle.program_machine.specs.Shared.{Shared, world_of}
use Rattle.program_rows.specs.Stored.{AreThere, IsSameSize, seats_of}
use Rattle.program_steps.specs.declared.stand.Stand.TheVariants.{Before}
use Rattle.program_steps.specs.declared.stand.Then.{Then}
use Rattle.program_steps.specs.Steps.{Reaches, row_of, StepsTo}
use Rattle.program_steps.specs.World.{code_of}
use Rattle.step_core.specs.Key.{HasForm}
use Rattle.step_core.specs.State.{AreSameSize}
use Rattle.step_table.specs.declared.entry.Entry.{Entry}

-- some schedule of n steps led here
pub record HasPast (p : Program) (n : ℕ) (s : Shared) : Type 0 where
  pub journal : List Entry
  pub schedule : List ℕ
  pub reached : Reaches p schedule (world_of s journal)
  pub count : length schedule ≡ n

-- what is stored of a program after n steps: there are never more than 2^63
pub record IsSound (p : Program) (n : ℕ) (s : Shared) : Type 0 where
  pub formed : IsWellFormed p
  pub few : IsFew p
  pub form : HasForm (parts_of p) s.layer
  pub words : length s.own.words ≡ length p.words
  pub seats : length s.own.seats ≡ length p.seats
  pub there : AreThere s.own
  pub small : n ≤ 2 ^ 63
  pub past : HasPast p n s

-- so it is after some steps, and the seat is one of the program's
pub record CanGoOn (p : Program) (s : Shared) (i : ℕ) : Type 0 where
  pub steps : ℕ
  pub sound : IsSound p steps s
  pub there : i < length p.seats

-- the seat stands before this line, which says this
pub record IsBefore (p : Program) (s : Shared) (i line : ℕ) (says : Instruction) : Type 0 where
  pub stand : (seats_of s.own.seats i).stand ≡ Before line
  pub code : CodeLine
  pub at : slice_get (code_of p i) line ≡ Some code
  pub is : code.instruction ≡ says

-- as large
pub record IsAsLarge (s t : Shared) : Type 0 where
  pub layer : AreSameSize s.layer t.layer
  pub own : IsSameSize s.own t.own

-- the row of the seat has run: with each journal it is the definition's
pub record HasRun (p : Program) (s : Shared) (i : ℕ) (t : Shared) (then : Then) : Type 0 where
  pub row : (journal : List Entry) → (told : List Entry)
      × (row_of p (world_of s journal) i ≡ Some (record { world = world_of t told; next = then }))
  pub size : IsAsLarge s t

-- it can't run
abbrev pub HasNoRow : Program → Shared → ℕ → Type 0
HasNoRow p s i = (journal : List Entry) → row_of p (world_of s journal) i ≡ None

-- with each journal the seat has made a step of the definition
pub record HasStepped (p : Program) (s : Shared) (i : ℕ) (t : Shared) : Type 0 where
  pub step : (journal : List Entry) → (told : List Entry) × StepsTo p (world_of s journal) i (world_of t told)
  pub size : IsAsLarge s t
