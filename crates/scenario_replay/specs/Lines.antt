-- What the lines of a table tell of a schedule.
use Rattle.std.specs.Prelude.{◌≡◌, ℕ, List, [], ◌∷◌, Option, Some, None, IfSome, length, slice_get, take}
use Rattle.step_table.specs.declared.entry.Entry.{Entry}
use Rattle.step_table.specs.declared.parts.Parts.{Parts}
use Rattle.step_law_alike.specs.declared.variant.Variant.{Variant}
use Rattle.step_table.specs.World.{put}
use Rattle.step_table.specs.Row.{phase_in}
use Rattle.step_table.specs.Run.{Run, start, refusal}
use Rattle.step_core.specs.Finding.{found_by}
use Rattle.step_core.specs.State.{Moment, and_then, run_of, telling}
use Rattle.step_core.specs.Stepping.{stepped_by}
use Rattle.scenario_replay.specs.declared.line.StepLine.{StepLine}
use Rattle.scenario_replay.specs.StepLine.{call_begun}
use Rattle.scenario_replay.specs.declared.table.RefusedStep.{RefusedStep}
use Rattle.scenario_replay.specs.declared.table.ReplayTable.{ReplayTable}

-- a schedule so far: the run, and how many calls each seat had begun before its last step, 0 where it has
-- made none
pub record Past : Type 0 where
  pub run : Run
  pub told : ℕ → ℕ

abbrev pub first_past : Parts → Past
first_past parts = record { run = start parts; told = λ s. 0 }

-- one step more, by the table or by this change of it
abbrev pub past_with : Option Variant → Parts → Past → ℕ → Past
past_with change parts past i =
    record { run = stepped_by change parts past.run i; told = put past.told i (past.run.begun i) }

abbrev pub past_from : Option Variant → Parts → Past → List ℕ → Past
past_from change parts past [] = past
past_from change parts past (i ∷ schedule) = past_from change parts (past_with change parts past i) schedule

-- the past of a schedule whose steps were all made
abbrev pub past_of : Option Variant → Parts → List ℕ → Past
past_of change parts schedule = past_from change parts (first_past parts) schedule

-- the picture is of this run, with some journal, by the step table or by this change of it
pub record Shows (change : Option Variant) (picture : Moment) (parts : Parts) (run : Run) : Type 0 where
  pub table_is : picture.table ≡ change
  pub parts_are : picture.parts ≡ parts
  pub run_is : (journal : List Entry) × (run_of (telling picture journal) ≡ run)

-- the line tells a step of this seat in this past, which can be run: the row before which it stands, what
-- that finds, the call that begins, what the row tells, and all words after the step
pub record TellsStepOf (change : Option Variant) (parts : Parts) (past : Past) (i : ℕ) (line : StepLine)
    : Type 0 where
  pub seat : line.seat ≡ i
  pub enabled : refusal parts past.run i ≡ None
  pub row : line.row ≡ phase_in past.run.core i
  pub found : found_by parts past.run i ≡ Some line.found
  pub call : line.call ≡ call_begun parts i (past.told i) (past.run.begun i)
  pub entry : (stepped_by change parts past.run i).core.journal ≡ and_then past.run.core.journal line.entry
  pub after : Shows change line.after parts (stepped_by change parts past.run i)

-- the line of step `at`
pub record IsLine (change : Option Variant) (parts : Parts) (schedule : List ℕ) (at : ℕ) (line : StepLine)
    : Type 0 where
  pub step : slice_get schedule at ≡ Some line.seat
  pub tells : TellsStepOf change parts (past_of change parts (take at schedule)) line.seat line

-- the table goes to the end of the schedule, or ends before this step, which is refused by this
abbrev pub EndsBy : Option Variant → Parts → List ℕ → ℕ → Option RefusedStep → Type 0
EndsBy change parts schedule count None = count ≡ length schedule
EndsBy change parts schedule count (Some refused) =
    (refused.at ≡ count) × (i : ℕ) × (slice_get schedule count ≡ Some i)
    × (refusal parts (past_of change parts (take count schedule)).run i ≡ Some refused.cause)

-- the table of a schedule, by the step table or by this change of it. Its journal is that of the run where it
-- ends
pub record IsTableOf (change : Option Variant) (parts : Parts) (schedule : List ℕ) (table : ReplayTable)
    : Type 0 where
  pub begins : Shows change table.start parts (start parts)
  pub lines : (at : ℕ) → IfSome (slice_get table.lines.items at) (IsLine change parts schedule at)
  pub ends : EndsBy change parts schedule (length table.lines.items) table.refused
  pub ends_at : Shows change table.end parts
      (past_of change parts (take (length table.lines.items) schedule)).run
  pub tells : run_of (telling table.end table.journal.items)
      ≡ (past_of change parts (take (length table.lines.items) schedule)).run
