-- A lock program at one moment: where it starts, and its steps.
use Rattle.std.specs.Prelude.{◌≡◌, ℕ, ◌+◌, ◌<◌, [], length, List, ⊤}
use Rattle.program_code.specs.declared.program.Program.{Program}
use Rattle.program_machine.specs.Shared.{Shared, world_of}
use Rattle.program_machine.specs.Sound.{HasNoRow}
use Rattle.program_steps.specs.Steps.{IsStart, StepsTo}
use Rattle.step_table.specs.declared.entry.Entry.{Entry}
use Rattle.step_table.specs.declared.refusal.StepRefused.{StepRefused}
use Rattle.step_table.specs.declared.refusal.StepRefused.TheVariants.{NoMemory}

-- the program, what is stored of it, and how many steps it has made
pub record ProgramMoment : Type 0 where
  pub program : Program
  pub shared : Shared
  pub steps : ℕ

-- each seat has gone on from its first line, and nothing has happened
pub record IsStarted (p : Program) (m : ProgramMoment) : Type 0 where
  pub program : m.program ≡ p
  pub start : IsStart p (world_of m.shared [])
  pub steps : m.steps ≡ 0

-- seat i has made a step: with each journal of the layer it is one of the definition
pub record HasMoved (m : ProgramMoment) (i : ℕ) (n : ProgramMoment) : Type 0 where
  pub program : n.program ≡ m.program
  pub step : (journal : List Entry) → (told : List Entry)
      × StepsTo m.program (world_of m.shared journal) i (world_of n.shared told)
  pub steps : n.steps ≡ m.steps + 1

-- why a step is refused: memory or numbers have run out, or the seat isn't there, or its row can't run
abbrev pub IsRefusedBy : StepRefused → ProgramMoment → ℕ → Type 0
IsRefusedBy NoMemory m i = ⊤
IsRefusedBy cause m i = i < length m.program.seats → HasNoRow m.program m.shared i
