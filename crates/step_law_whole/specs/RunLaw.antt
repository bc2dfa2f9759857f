-- The law of the runs of a scenario.
use Rattle.std.specs.Prelude.{ℕ, List}
use Rattle.step_table.specs.declared.parts.Parts.{Parts}
use Rattle.step_table.specs.CoreSteps.{IsCoreEnd}
use Rattle.step_law_whole.specs.CoreLaw.{IsCoreAtRest}
use Rattle.step_table.specs.Run.{Run, AllRun, layout}
use Rattle.step_law_whole.specs.RunInvariant.{IsSoundRun, IsScenario}
use Rattle.step_law_whole.specs.RunPromises.{IsLawfulRun}
use Rattle.step_law_whole.specs.RunGrants.{EachStepGrantsLeast}

-- each sound run is lawful, and at rest where no seat can run: no ticket is ever late. And each step of a
-- schedule grants the least ticket that is neither granted nor gone alone, or all such that were handed out when
-- its L5 read the wait word
pub record TheRunLaw : Type 0 where
  pub lawful : (parts : Parts) (run : Run) → IsScenario parts → IsSoundRun parts run
      → IsLawfulRun (layout parts) run.core
  pub ends : (parts : Parts) (run : Run) → IsScenario parts → IsSoundRun parts run
      → IsCoreEnd (layout parts) run.core → IsCoreAtRest (layout parts) run.core
  pub least : (parts : Parts) (schedule : List ℕ) → IsScenario parts → AllRun parts schedule
      → EachStepGrantsLeast parts schedule
