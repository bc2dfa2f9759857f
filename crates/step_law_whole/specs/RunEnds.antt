-- The law of the ends of a scenario's runs: every schedule ends.
use Rattle.std.specs.Prelude.{◌≡◌, ℕ, ◌+◌, ◌<◌, ◌≤◌, List, length, None}
use Rattle.step_table.specs.declared.parts.Parts.{Parts}
use Rattle.step_table.specs.CoreSteps.{IsCoreEnd}
use Rattle.step_table.specs.Run.{layout, stepped, refusal, after_all, reached, AllRunFrom, AllRun}
use Rattle.step_law_whole.specs.CoreLaw.{IsCoreAtRest}
use Rattle.step_law_whole.specs.RunInvariant.{IsScenario}
use Rattle.step_law_whole.specs.RunWeight.{most_steps, run_weight}

-- each step lowers the weight, which is at most `most_steps` at the start. So no schedule that can be run has
-- more steps; and however a run has gone on, it can be gone on with to an end world, within that bound. There
-- no lock is held, and each seat has ended, has failed, or sleeps on a counter at 0 or with a ticket that
-- isn't granted
pub record TheRunEnds : Type 0 where
  pub lowered : (parts : Parts) (schedule : List ℕ) (i : ℕ) → IsScenario parts → AllRun parts schedule
      → refusal parts (reached parts schedule) i ≡ None
      → run_weight parts (stepped parts (reached parts schedule) i) < run_weight parts
      (reached parts schedule)
  pub few : (parts : Parts) (schedule : List ℕ) → IsScenario parts → AllRun parts schedule
      → length schedule + run_weight parts (reached parts schedule) ≤ most_steps parts
  pub ends : (parts : Parts) (schedule : List ℕ) → IsScenario parts → AllRun parts schedule
      → (more : List ℕ) × AllRunFrom parts (reached parts schedule) more
      × (length schedule + length more ≤ most_steps parts)
      × IsCoreEnd (layout parts) (after_all parts (reached parts schedule) more).core
      × IsCoreAtRest (layout parts) (after_all parts (reached parts schedule) more).core
  pub rests : (parts : Parts) (schedule : List ℕ) → IsScenario parts → AllRun parts schedule
      → IsCoreEnd (layout parts) (reached parts schedule).core
      → IsCoreAtRest (layout parts) (reached parts schedule).core
  -- of 16 seats with 32 calls each at most, of which none costs more than 708
  pub bounded : (parts : Parts) → IsScenario parts → most_steps parts ≤ 362496
