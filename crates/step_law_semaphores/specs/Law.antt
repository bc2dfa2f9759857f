-- The law of the rows.
use Rattle.std.specs.Prelude.{◌≡◌, ℕ, ◌<◌, ◌⊎◌}
use Rattle.step_table.specs.declared.place.Place.TheVariants.{Rest}
use Rattle.step_table.specs.World.{Layout, SemaWorld, first_world}
use Rattle.step_table.specs.Steps.{Turn, Step, IsReached, IsEnd}
use Rattle.step_law_semaphores.specs.Lawful.{Sleeps, IsLawfulWorld}
use Rattle.step_table.specs.Counting.{wait, times}
use Rattle.step_law_semaphores.specs.Invariant.{IsInvariant}

-- no lock is held, and each seat is at rest or sleeps on a counter whose number is 0, its wait in that
-- counter's list
abbrev pub IsAtRest : Layout → SemaWorld → Type 0
IsAtRest m s =
    ((r : ℕ) → s.words.locks r ≡ 0)
    × ((k : ℕ) → k < m.seats → ((s.seats k).place ≡ Rest)
    ⊎ ((c turn : ℕ) × Sleeps s k c turn × (times (wait k turn) (s.words.lists c) ≡ 1)
    × (s.words.numbers c ≡ 0)))

-- the invariant holds at every start, and every step keeps it, so every reached world has it; it gives the
-- whole lawful world, so every reached world is lawful. In an end world no lock is held and each sleeping wait
-- is queued on a counter whose number is 0. Rows are deterministic
pub record TheLaw : Type 0 where
  pub starts : (m : Layout) → IsInvariant m (first_world m.starts)
  pub kept : (m : Layout) (s t : SemaWorld) (i : ℕ) → i < m.seats → IsInvariant m s → Step m s i t
      → IsInvariant m t
  pub lawful : (m : Layout) (s : SemaWorld) → IsInvariant m s → IsLawfulWorld m s
  pub invariant : (m : Layout) (s : SemaWorld) → IsReached m s → IsInvariant m s
  pub reached : (m : Layout) (s : SemaWorld) → IsReached m s → IsLawfulWorld m s
  pub ends : (m : Layout) (s : SemaWorld) → IsInvariant m s → IsEnd m s → IsAtRest m s
  pub sole : (m : Layout) (s t u : SemaWorld) (i : ℕ) → Turn m.root s i t → Turn m.root s i u → t ≡ u
