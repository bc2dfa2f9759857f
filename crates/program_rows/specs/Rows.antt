-- What rows make of what is stored: each row of a line is the definition's, above any layer.
use Rattle.std.specs.Prelude.{◌≡◌, ℕ, ℤ, Option, Some, None}
use Rattle.program_code.specs.declared.instruction.Instruction.{Instruction}
use Rattle.program_rows.specs.Stored.{Stored, world_over, IsSameSize}
use Rattle.program_steps.specs.World.{ProgramWorld}
use Rattle.program_steps.specs.declared.stand.Then.{Then}
use Rattle.program_steps.specs.Steps.{Did, reading, row_of_line, unparked, awoken}
use Rattle.step_table.specs.Core.{Core}

-- this is what a row did that led from s to t, and what comes next
pub record Does (row : ProgramWorld → Option Did) (s t : Stored) (next : Then) : Type 0 where
  pub did : (layer : Core) → row (world_over layer s) ≡ Some (record { world = world_over layer t; next = next })
  pub size : IsSameSize s t

-- the row can't run, and nothing has changed
pub record CanNot (row : ProgramWorld → Option Did) (s t : Stored) : Type 0 where
  pub none : (layer : Core) → row (world_over layer s) ≡ None
  pub same : t ≡ s

abbrev pub DoesIfItCan : (ProgramWorld → Option Did) → Stored → Stored → Option Then → Type 0
DoesIfItCan row s t None = CanNot row s t
DoesIfItCan row s t (Some next) = Does row s t next

-- the row of seat i at the line n
abbrev pub row_at : ℕ → ℕ → Instruction → ProgramWorld → Option Did
row_at i n l world = row_of_line world i n l

-- a word becomes x, and a register what it was
abbrev pub reads_at : ℕ → Option ℕ → ℕ → ℤ → ProgramWorld → Option Did
reads_at i r w x world = Some (reading world i r w x)

-- a sleeper takes its grant
abbrev pub wakes_at : ℕ → ProgramWorld → Option Did
wakes_at i world = awoken world i

-- the first so many sleepers on the word are woken
pub record HasWoken (w many : ℕ) (s t : Stored) : Type 0 where
  pub world : (layer : Core) → world_over layer t ≡ unparked (world_over layer s) w many
  pub size : IsSameSize s t
