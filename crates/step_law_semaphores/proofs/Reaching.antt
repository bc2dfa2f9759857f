-- Each step is one of the cases, and what each keeps holds of all reached worlds.
use Rattle.std.proofs.Common.{ℕ, ◌<◌}
use Rattle.step_table.specs.World.{Layout, SemaWorld, first_world}
use Rattle.step_table.specs.Steps.{IsReached}
use Rattle.step_table.specs.Steps as steps
use Rattle.step_law_semaphores.specs.Invariant.{IsInvariant}
use Rattle.step_law_semaphores.proofs.Lines.{Step}
use Rattle.step_law_semaphores.proofs.Cases.{step_of}
use Rattle.step_table.proofs.Turns.{steps_keep}
use Rattle.step_law_semaphores.proofs.Promises.{at_first, kept}

-- each step from a world with the invariant is one of the cases
pub cases : {m : Layout} {s t : SemaWorld} {i : ℕ} → i < m.seats → IsInvariant m s → steps.Step m s i t → Step m s i t
cases {m = m} {s = s} {t = t} {i = i} in_range inv step = step_of m s t i (inv.seats i) (inv.finds i in_range) step

-- a rule that holds at the start and that each case keeps holds of each reached world
pub holds_reached : (m : Layout) (Rule : SemaWorld → Type 0) → Rule (first_world m.starts)
    → ((s t : SemaWorld) (i : ℕ) → i < m.seats → IsInvariant m s → Step m s i t → Rule s → Rule t)
    → (s : SemaWorld) → IsReached m s → Rule s
holds_reached m Rule start keeps s led =
    (steps_keep (steps.Step m) m.seats (λ s. IsInvariant m s × Rule s)
    (λ s t i h both step. (kept m s t i h both.0 step, keeps s t i h both.0 (cases h both.0 step) both.1))
    (first_world m.starts) s led (at_first m, start)).1
