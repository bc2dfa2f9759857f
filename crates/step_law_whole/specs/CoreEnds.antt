-- The law of the ends of the whole machine.
use Rattle.std.specs.Prelude.{◌≡◌, ℕ, ◌+◌, ◌<◌, ◌≤◌, IsTrue, ◌^◌}
use Rattle.step_law_lists.specs.ListLawful.{told}
use Rattle.step_table.specs.Core.{CoreLayout, Core, first_core}
use Rattle.step_table.specs.CoreSteps.{can_run, core_turned, IsCoreEnd}
use Rattle.step_law_whole.specs.CoreLaw.{IsCoreInvariant, IsCoreAtRest, AllInReach}
use Rattle.step_law_whole.specs.Course.{Course, Rows}
use Rattle.step_law_whole.specs.CoreWeight.{core_weight, Called, WaitsCounted}

-- seat i runs its row
abbrev pub CoreRow : CoreLayout → Core → ℕ → Core → Type 0
CoreRow m s i t = IsTrue (can_run m s i (s.standing i)) × (t ≡ core_turned m s i)

-- from s, by so many rows, and by calls that cost so much together
abbrev pub CoreCourse : CoreLayout → Core → ℕ → ℕ → Core → Type 0
CoreCourse m = Course (CoreRow m) (Called m) m.seats

-- the worlds that are reached
abbrev pub IsCoreReached : CoreLayout → Core → Type 0
IsCoreReached m s = (rows : ℕ) × (costs : ℕ) × CoreCourse m (first_core m) rows costs s

-- the journals of lists are in reach wherever rows lead from here
abbrev pub StaysInReach : CoreLayout → Core → Type 0
StaysInReach m s = (rows : ℕ) (t : Core) → Rows (CoreRow m) m.seats s rows t → AllInReach t

-- while the journals of lists are in reach, each row lowers the weight, and a call raises it by its cost at
-- most; at the start it is 0. So between two worlds there are no more rows than the weight of the first and
-- the costs of the calls that began. And however a reached world has gone on, rows lead to an end world,
-- within that bound. While at most 2^63 tickets of each list were handed out, no lock is held there, and each
-- seat has ended, has failed, or sleeps on a counter at 0 or with a ticket that is neither granted nor gone
pub record TheCoreEnds : Type 0 where
  pub starts : (m : CoreLayout) → core_weight m (first_core m) ≡ 0
  pub lowered : (m : CoreLayout) (s t : Core) (i : ℕ) → i < m.seats → AllInReach s → IsCoreInvariant m s
      → WaitsCounted m s → CoreRow m s i t → core_weight m t < core_weight m s
  pub raised : (m : CoreLayout) (s t : Core) (i cost : ℕ) → i < m.seats → Called m s i cost t
      → core_weight m t ≤ core_weight m s + cost
  pub counted : (m : CoreLayout) (s : Core) → IsCoreReached m s → WaitsCounted m s
  pub few : (m : CoreLayout) (s t : Core) (rows costs : ℕ) → AllInReach t → IsCoreReached m s
      → CoreCourse m s rows costs t → rows + core_weight m t ≤ core_weight m s + costs
  pub ends : (m : CoreLayout) (s t : Core) (rows costs : ℕ) → IsCoreReached m s → CoreCourse m s rows costs t → StaysInReach m t
      → (u : Core) × (more : ℕ) × Rows (CoreRow m) m.seats t more u
      × (rows + more ≤ core_weight m s + costs) × IsCoreEnd m u
      × (((l : ℕ) → (told (u.lists l).journal).handed ≤ 2 ^ 63) → IsCoreAtRest m u)
