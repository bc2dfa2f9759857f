-- The law of the ends of one notify list: no call makes the others run for ever.
use Rattle.std.specs.Prelude.{◌≡◌, ℕ, ◌+◌, ◌<◌, ◌≤◌}
use Rattle.step_table.specs.ListWorld.{ListWorld, first_list}
use Rattle.step_table.specs.ListSteps.{ListTurn, Leads, IsListReached, IsListEnd}
use Rattle.step_law_lists.specs.ListInvariant.{IsListInvariant}
use Rattle.step_law_lists.specs.ListLaw.{IsListAtRest}
use Rattle.step_law_lists.specs.ListLawful.{IsInReach}
use Rattle.step_law_whole.specs.Course.{Course, Rows}
use Rattle.step_law_whole.specs.ListWeight.{list_weight, ListChosen}

-- from s, by so many rows, and by choices that cost so much together
abbrev pub ListCourse : ℕ → ListWorld → ℕ → ℕ → ListWorld → Type 0
ListCourse = Course ListTurn ListChosen

-- the journal is in reach wherever rows lead from here
abbrev pub StaysInReach : ℕ → ListWorld → Type 0
StaysInReach seats s = (rows : ℕ) (t : ListWorld) → Rows ListTurn seats s rows t → IsInReach t.journal

-- while the journal is in reach, each row lowers the weight, and a choice raises it by its cost at most; at the
-- start it is 0. So between two worlds there are no more rows than the weight of the first and the costs of
-- what was chosen. And however a reached world has gone on, rows lead to an end world, within that bound;
-- there the lock is free, and each seat rests, or sleeps in the list and has no grant
pub record TheListEnds : Type 0 where
  pub starts : (first seats : ℕ) → list_weight seats (first_list first) ≡ 0
  pub lowered : (first seats : ℕ) (s t : ListWorld) (i : ℕ) → i < seats → IsListInvariant first seats s
      → ListTurn s i t
      → list_weight seats t < list_weight seats s
  pub raised : (seats : ℕ) (s t : ListWorld) (i cost : ℕ) → i < seats → ListChosen s i cost t
      → list_weight seats t ≤ list_weight seats s + cost
  pub counted : (seats : ℕ) (s t : ListWorld) → Leads seats s t
      → (rows : ℕ) × (costs : ℕ) × ListCourse seats s rows costs t
  pub few : (first seats : ℕ) (s t : ListWorld) (rows costs : ℕ) → IsInReach t.journal
      → IsListReached first seats s
      → ListCourse seats s rows costs t → rows + list_weight seats t ≤ list_weight seats s + costs
  pub ends : (first seats : ℕ) (s t : ListWorld) (rows costs : ℕ) → IsListReached first seats s
      → ListCourse seats s rows costs t → StaysInReach seats t
      → (u : ListWorld) × (more : ℕ) × Rows ListTurn seats t more u
      × (rows + more ≤ list_weight seats s + costs) × IsListEnd seats u × IsListAtRest seats u
