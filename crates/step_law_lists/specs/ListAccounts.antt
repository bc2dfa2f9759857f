-- The accounts of one notify list.
use Rattle.std.specs.Prelude.{◌≡◌, ℕ, ◌<◌}
use Rattle.step_table.specs.ListWorld.{ListWorld}
use Rattle.step_table.specs.ListSteps.{event_of, ListTurn, ListStep, IsListReached}
use Rattle.step_law_lists.specs.ListLawful.{told, IsInReach}
use Rattle.step_law_lists.specs.ListInvariant.{IsListInvariant}
use Rattle.step_law_lists.specs.ListWellFormed.{ListSleepersCounted}
use Rattle.step_law_lists.specs.ListEntries.{EntriesNamed, TellsOwn, NumbersTold, NoneTakenBack, NeverUndone}
use Rattle.step_law_lists.specs.ListEntries.{NeverTakenBack}
use Rattle.step_law_lists.specs.ListHolders.{StoresGrant, HolderAlone, OnlyHolders, ChangesWords}
use Rattle.step_law_lists.specs.ListReturns.{EndsDone}
use Rattle.step_law_lists.specs.ListPlaces.{HasRoom, FewRuns, GrantsParked, RestsIdle, AllRest, NothingLeft}
use Rattle.step_law_lists.specs.ListPlaces.{ReachedList}

-- what a row or a choice of a caller does from any world, and what no journal takes back; what is known of reached
-- worlds; what holds of each world with the invariant; and what one step does from such a world
pub record TheListAccounts : Type 0 where
  -- of every step
  pub tells : (s t : ListWorld) (i : ℕ) → ListStep s i t → TellsOwn i s t
  pub left : (s t : ListWorld) (i : ℕ) → ListStep s i t → OnlyHolders i s t
  pub ended : (s t : ListWorld) (i : ℕ) → ListTurn s i t → EndsDone i s t
  pub undone : (s : ListWorld) → NeverUndone s
  -- of reached worlds
  pub named : (first seats : ℕ) (s : ListWorld) → IsListReached first seats s → EntriesNamed seats s
  pub reached : (first seats : ℕ) (s : ListWorld) → IsInReach s.journal → IsListReached first seats s
      → ReachedList first seats s
  -- of worlds with the invariant
  pub numbers : (first seats : ℕ) (s : ListWorld) → IsListInvariant first seats s → NumbersTold s
  pub stays : (first seats : ℕ) (s : ListWorld) → IsListInvariant first seats s → NeverTakenBack s
  pub alone : (first seats : ℕ) (s : ListWorld) → IsListInvariant first seats s → HolderAlone seats s
  pub counted : (first seats : ℕ) (s : ListWorld) → IsListInvariant first seats s
      → ListSleepersCounted seats s
  pub room : (first seats : ℕ) (s : ListWorld) → IsListInvariant first seats s → HasRoom seats s
  pub runs : (first seats : ℕ) (s : ListWorld) → IsListInvariant first seats s → FewRuns seats (told s.journal)
  pub granted : (first seats i k x : ℕ) (s : ListWorld) → i < seats → IsListInvariant first seats s
      → StoresGrant (event_of s i) k x → (x ≡ 1) × GrantsParked seats i k s
  pub idle : (first seats : ℕ) (s : ListWorld) → IsListInvariant first seats s → RestsIdle seats s
  pub cleared : (first seats : ℕ) (s : ListWorld) → IsListInvariant first seats s → AllRest seats s
      → NothingLeft seats s
  -- of a step from such a world
  pub grown : (first seats i : ℕ) (s t : ListWorld) → i < seats → IsListInvariant first seats s
      → ListStep s i t
      → NoneTakenBack (told s.journal) (told t.journal)
  pub changed : (first seats i : ℕ) (s t : ListWorld) → i < seats → IsListInvariant first seats s
      → ListStep s i t
      → ChangesWords first i s t
