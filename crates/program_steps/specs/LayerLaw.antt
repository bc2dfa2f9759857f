-- The law of the sleeping layer below a lock program: in every world of every program it is lawful.
use Rattle.std.specs.Prelude.{ℕ, ◌≤◌, ◌^◌, List, length}
use Rattle.program_code.specs.declared.program.Program.{Program}
use Rattle.program_steps.specs.World.{ProgramWorld, layer_of}
use Rattle.program_steps.specs.Steps.{Reaches}
use Rattle.program_code.specs.WellFormed.{IsWellFormed}
use Rattle.step_law_whole.specs.CoreLaw.{IsLawfulCore}

-- semaphores and lists are lawful whatever words, registers and branches a program has of its own
abbrev pub LayersAreLawful : Type 0
LayersAreLawful =
    (p : Program) → IsWellFormed p → length p.seats ≤ 2 ^ 63
    → (schedule : List ℕ) (s : ProgramWorld) → Reaches p schedule s → IsLawfulCore (layer_of p) s.layer
