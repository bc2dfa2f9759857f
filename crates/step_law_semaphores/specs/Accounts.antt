-- The accounts of the semaphores: what threads ask of them.
use Rattle.std.specs.Prelude.{ℕ, ◌<◌}
use Rattle.std.specs.List.{All}
use Rattle.step_table.specs.World.{Layout, SemaWorld}
use Rattle.step_table.specs.Steps.{Turn, Step, IsReached}
use Rattle.step_law_semaphores.specs.Invariant.{IsInvariant}
use Rattle.step_law_semaphores.specs.Entries.{IsNamed, TellsOwn}
use Rattle.step_law_semaphores.specs.Balances.{AddedBySeats, WithdrawnBySeats, TakenForSeats, Balanced}
use Rattle.step_law_semaphores.specs.Balances.{BalancedInAll}
use Rattle.step_law_semaphores.specs.Holders.{LowersSome, GivesHeld, HolderAlone, LeavesOthers}
use Rattle.step_law_semaphores.specs.Holders.{AllGrantParked}
use Rattle.step_law_semaphores.specs.Holders.{WaitersNear, ChangesWords}
use Rattle.step_law_semaphores.specs.Served.{TakesCounted, ServedOnce, EndsWithUnit, TurnsQueued, TakesServed}
use Rattle.step_law_semaphores.specs.Bounds.{AllRest, IsCleared, IsSmall, IsUnwrapped}

-- what holds of each reached world, of each world with the invariant, of each step from such a world and, for
-- `ended`, of each row from any world
pub record TheAccounts : Type 0 where
  pub named : (m : Layout) (s : SemaWorld) → IsReached m s → All (IsNamed m) s.journal
  pub told : (m : Layout) (s t : SemaWorld) (i : ℕ) → i < m.seats → IsInvariant m s → Step m s i t
      → TellsOwn i s t
  pub added : (m : Layout) (s : SemaWorld) → IsReached m s → AddedBySeats m s
  pub withdrawn : (m : Layout) (s : SemaWorld) → IsReached m s → WithdrawnBySeats m s
  pub taken : (m : Layout) (s : SemaWorld) → IsReached m s → TakenForSeats m s
  pub balanced : (m : Layout) (s : SemaWorld) → IsInvariant m s → Balanced m s
  pub balanced_in_all : (m : Layout) (s : SemaWorld) → IsReached m s → BalancedInAll m s
  pub lowered : (m : Layout) (s : SemaWorld) → IsInvariant m s → LowersSome m s
  pub given : (m : Layout) (s : SemaWorld) → IsInvariant m s → GivesHeld m s
  pub alone : (m : Layout) (s : SemaWorld) → IsInvariant m s → HolderAlone m s
  pub left : (m : Layout) (s t : SemaWorld) (i : ℕ) → i < m.seats → IsInvariant m s → Step m s i t
      → LeavesOthers m i s t
  pub granted : (m : Layout) (s : SemaWorld) → IsInvariant m s → AllGrantParked m s
  pub near : (m : Layout) (s : SemaWorld) → IsInvariant m s → WaitersNear m s
  pub changed : (m : Layout) (s t : SemaWorld) (i : ℕ) → i < m.seats → IsInvariant m s → Step m s i t
      → ChangesWords m i s t
  pub counted : (m : Layout) (s t : SemaWorld) (i : ℕ) → i < m.seats → IsInvariant m s → Step m s i t
      → TakesCounted m i s t
  pub served : (m : Layout) (s : SemaWorld) → IsInvariant m s → ServedOnce m s
  pub ended : (m : Layout) (s t : SemaWorld) (i : ℕ) → Turn m.root s i t → EndsWithUnit i s t
  pub turns : (m : Layout) (s : SemaWorld) → IsReached m s → TurnsQueued s
  pub since : (m : Layout) (s : SemaWorld) → IsReached m s → TakesServed m s
  pub cleared : (m : Layout) (s : SemaWorld) → IsInvariant m s → AllRest m s → IsCleared m s
  pub unwrapped : (m : Layout) (share : ℕ) (s : SemaWorld) → IsReached m s → IsSmall m share s → IsUnwrapped m s
