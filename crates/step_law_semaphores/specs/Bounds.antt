-- Where all seats rest nothing is left of any call; and words don't wrap.
use Rattle.std.specs.Prelude.{◌≡◌, ℕ, ◌+◌, ◌*◌, ◌^◌, ◌<◌, ◌≤◌, []}
use Rattle.step_table.specs.declared.place.Place.TheVariants.{Rest}
use Rattle.step_table.specs.World.{Layout, SemaWorld}
use Rattle.step_table.specs.Counting.{total}
use Rattle.step_law_semaphores.specs.Balances.{added_by, withdrawn_by}

-- each seat is at rest
abbrev pub AllRest : Layout → SemaWorld → Type 0
AllRest m s = (k : ℕ) → k < m.seats → (s.seats k).place ≡ Rest

-- nothing is left in lists, locks, waiter words, grants and hands
pub record IsCleared (m : Layout) (s : SemaWorld) : Type 0 where
  pub lists : (c : ℕ) → s.words.lists c ≡ []
  pub locks : (r : ℕ) → s.words.locks r ≡ 0
  pub waiters : (r : ℕ) → s.words.waiters r ≡ 0
  pub grants : (k : ℕ) → k < m.seats → s.words.grants k ≡ 0
  pub hands : (k : ℕ) → k < m.seats → (s.seats k).hand ≡ []

-- all that seats may spend together
abbrev pub most_spent : ℕ
most_spent = 2 ^ 62

-- there are at most 65,536 seats, starts are below 2^32, and the units that each seat has added and the waits that it
-- has withdrawn are together at most its share of what all may spend
pub record IsSmall (m : Layout) (share : ℕ) (s : SemaWorld) : Type 0 where
  pub seats : m.seats ≤ 2 ^ 16
  pub starts : (c : ℕ) → m.starts c < 2 ^ 32
  pub shares : m.seats * share ≤ most_spent
  pub few : (k : ℕ) → k < m.seats → added_by k s.journal + withdrawn_by k s.journal ≤ share

-- all numbers and turns are far below 2^63, and so are all turns together
pub record IsUnwrapped (m : Layout) (s : SemaWorld) : Type 0 where
  pub numbers : (c : ℕ) → s.words.numbers c < most_spent + 2 ^ 32
  pub turns : (k : ℕ) → k < m.seats → (s.seats k).turn ≤ most_spent + 2 ^ 16
  pub all_turns : total m.seats (λ k. (s.seats k).turn) ≤ most_spent + 2 ^ 16
