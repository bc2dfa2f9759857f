-- What the line of a step tells of it.
use Rattle.std.specs.Prelude.{◌≡◌, ℕ, ◌-◌, ◌==◌, if◌then◌else◌, List, Option, Some, None, Result, Ok, Err}
use Rattle.std.specs.Prelude.{length}
use Rattle.step_table.specs.declared.call.Call.{Call}
use Rattle.step_table.specs.declared.parts.Parts.{Parts}
use Rattle.step_table.specs.declared.refusal.StepRefused.{StepRefused}
use Rattle.step_table.specs.World.{put}
use Rattle.step_table.specs.Row.{phase_in}
use Rattle.step_table.specs.Run.{call_of, refusal}
use Rattle.step_core.specs.Finding.{found_by}
use Rattle.step_core.specs.State.{Moment, run_at}
use Rattle.step_core.specs.Stepping.{Steps}
use Rattle.step_rows.specs.Stored.{each}
use Rattle.scenario_replay.specs.declared.line.StepLine.{StepLine}

-- the call that the seat is in, of which this is the first step: it had begun fewer before its last one
abbrev pub call_begun : Parts → ℕ → ℕ → ℕ → Option Call
call_begun parts i told begun = if told == begun then None else call_of parts i (begun - 1)

-- the step was run, and this is its line
pub record HasTold (r : Moment) (told : List ℕ) (i : ℕ) (s : Moment) (now : List ℕ) (line : StepLine)
    : Type 0 where
  pub steps : Steps r i s line.entry
  pub count : length now ≡ length told
  pub told_now : each 0 now ≡ put (each 0 told) i ((run_at r).begun i)
  pub seat : line.seat ≡ i
  pub enabled : refusal r.parts (run_at r) i ≡ None
  pub row : line.row ≡ phase_in (run_at r).core i
  pub found : found_by r.parts (run_at r) i ≡ Some line.found
  pub call : line.call ≡ call_begun r.parts i (each 0 told i) ((run_at r).begun i)
  pub after : line.after ≡ s

-- what one step gives of a run that stands so: its line; or why it can't be run, and then nothing has changed
abbrev pub TellsStep : Moment → List ℕ → ℕ → Moment → List ℕ → Result StepLine StepRefused → Type 0
TellsStep r told i s now (Err cause) = (s ≡ r) × (refusal r.parts (run_at r) i ≡ Some cause)
TellsStep r told i s now (Ok line) = HasTold r told i s now line
