-- Each run of a scenario is sound.
use Rattle.std.proofs.Common.{◌≡◌, ℕ, None}
use Rattle.step_table.specs.declared.parts.Parts.{Parts}
use Rattle.step_law_whole.specs.CoreLaw.{IsCoreInvariant}
use Rattle.step_table.specs.Run.{Run, layout, start, stepped, refusal}
use Rattle.step_law_whole.specs.RunInvariant.{IsSoundRun, IsScenario}
use Rattle.step_law_whole.proofs.CoreCalling as calling
use Rattle.step_law_whole.proofs.CoreKeeping as keeping
use Rattle.step_law_whole.proofs.RunBeginning.{KeepsRuns}
use Rattle.step_law_whole.proofs.RunStarting.{starts_so}
use Rattle.step_law_whole.proofs.RunStepping.{steps_so}

core_keeps : (parts : Parts) → KeepsRuns parts (IsCoreInvariant (layout parts))
core_keeps parts = record {
  starts = calling.core_at_first (layout parts);
  stand = λ s inv. inv.standing;
  known = λ s i there inv. record { seat = inv.semaphores.seats i; finds = inv.semaphores.finds i there };
  called = calling.calls_keep (layout parts);
  rests = λ s i skips there inv at. calling.left_keeps (layout parts) s i skips inv at;
  kept = keeping.rows_keep (layout parts);
}

pub is_started : (parts : Parts) → IsScenario parts → IsSoundRun parts (start parts)
is_started parts scenario = starts_so parts (core_keeps parts) scenario

pub is_stepped : (parts : Parts) (run : Run) (i : ℕ) → IsScenario parts → IsSoundRun parts run → refusal parts run i ≡ None
    → IsSoundRun parts (stepped parts run i)
is_stepped parts run i scenario sound free = steps_so parts (core_keeps parts) run i scenario sound free
