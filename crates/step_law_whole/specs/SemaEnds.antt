-- The law of the semaphores' ends: no call makes the others run for ever.
use Rattle.std.specs.Prelude.{◌≡◌, ℕ, ◌+◌, ◌<◌, ◌≤◌}
use Rattle.step_table.specs.World.{Layout, SemaWorld, first_world}
use Rattle.step_table.specs.Steps.{Turn, Step, IsReached, IsEnd}
use Rattle.step_table.specs.Turn.{LeadsBy}
use Rattle.step_law_semaphores.specs.Invariant.{IsInvariant}
use Rattle.step_law_semaphores.specs.Law.{IsAtRest}
use Rattle.step_law_whole.specs.Course.{Course, Rows}
use Rattle.step_law_whole.specs.SemaWeight.{weight, Chosen}

-- from s, by so many rows, and by choices that cost so much together
abbrev pub SemaCourse : Layout → SemaWorld → ℕ → ℕ → SemaWorld → Type 0
SemaCourse m = Course (Turn m.root) (Chosen m) m.seats

-- each row lowers the weight, and a choice raises it by its cost at most; at the start it is 0. So between
-- two worlds there are no more rows than the weight of the first and the costs of what was chosen. And
-- however a reached world has gone on, rows lead to an end world, within that bound; there no lock is held,
-- and each seat rests or sleeps on a counter at 0
pub record TheSemaEnds : Type 0 where
  pub starts : (m : Layout) → weight m (first_world m.starts) ≡ 0
  pub lowered : (m : Layout) (s t : SemaWorld) (i : ℕ) → i < m.seats → IsInvariant m s → Turn m.root s i t
      → weight m t < weight m s
  pub raised : (m : Layout) (s t : SemaWorld) (i cost : ℕ) → i < m.seats → Chosen m s i cost t
      → weight m t ≤ weight m s + cost
  pub counted : (m : Layout) (s t : SemaWorld) → LeadsBy (Step m) m.seats s t
      → (rows : ℕ) × (costs : ℕ) × SemaCourse m s rows costs t
  pub few : (m : Layout) (s t : SemaWorld) (rows costs : ℕ) → IsReached m s → SemaCourse m s rows costs t
      → rows + weight m t ≤ weight m s + costs
  pub ends : (m : Layout) (s t : SemaWorld) (rows costs : ℕ) → IsReached m s → SemaCourse m s rows costs t
      → (u : SemaWorld) × (more : ℕ) × Rows (Turn m.root) m.seats t more u
      × (rows + more ≤ weight m s + costs) × IsEnd m u × IsAtRest m u
