-- How a schedule ends in a program: in a moment to which all its steps lead, and whose verdict is told, or
-- before a step that can't be run in the moment to which those before it lead.
use Rattle.std.specs.Prelude.{◌≡◌, ◌≢◌, ℕ, List, ◌∷◌, ◌++◌, Option, Some, None}
use Rattle.program_code.specs.declared.program.Program.{Program}
use Rattle.program_machine.specs.Moment.{ProgramMoment, IsRefusedBy}
use Rattle.program_machine.specs.Shared.{world_of}
use Rattle.program_machine.specs.Verdict.{IsVerdictOf}
use Rattle.program_retrace.specs.declared.retold.Ending.{Ending}
use Rattle.program_retrace.specs.declared.retold.Ending.TheVariants.{World, Refused}
use Rattle.program_steps.specs.Steps.{Reaches}
use Rattle.step_table.specs.declared.entry.Entry.{Entry}
use Rattle.step_table.specs.declared.refusal.StepRefused.{StepRefused}
use Rattle.step_table.specs.declared.refusal.StepRefused.TheVariants.{NoMemory}

-- the schedule leads to this moment of the program
pub record LeadsTo (p : Program) (schedule : List ℕ) (m : ProgramMoment) : Type 0 where
  pub program : m.program ≡ p
  pub journal : List Entry
  pub reached : Reaches p schedule (world_of m.shared journal)

-- a step of the schedule is refused by this, in the moment to which those before it lead
pub record IsRefusedIn (p : Program) (schedule : List ℕ) (cause : StepRefused) : Type 0 where
  pub before : List ℕ
  pub seat : ℕ
  pub rest : List ℕ
  pub parts : schedule ≡ before ++ seat ∷ rest
  pub moment : ProgramMoment
  pub leads : LeadsTo p before moment
  pub why : IsRefusedBy cause moment seat

-- the schedule as far as it can be run
abbrev pub RunsTo : Program → List ℕ → ProgramMoment → Option StepRefused → Type 0
RunsTo p schedule m None = LeadsTo p schedule m
RunsTo p schedule m (Some cause) = IsRefusedIn p schedule cause

-- how it ends; want of memory is no refusal
abbrev pub EndsBy : Program → List ℕ → Ending → Type 0
EndsBy p schedule (World verdict) = (m : ProgramMoment) × LeadsTo p schedule m × IsVerdictOf m verdict
EndsBy p schedule (Refused cause) = (cause ≢ NoMemory) × IsRefusedIn p schedule cause
