-- How many waits a notify list has, whom a grant reaches, and what is left where seats rest.
use Rattle.std.specs.Prelude.{◌≡◌, ◌≢◌, ℕ, ◌+◌, ◌-◌, ◌<◌, ◌≤◌, cond, List, [], ◌∷◌, length}
use Rattle.waiters.specs.declared.wait.Wait.{Wait}
use Rattle.step_table.specs.declared.list_place.ListPlace.TheVariants.{Rest, Waiting}
use Rattle.step_table.specs.declared.list_place.Ticket.{Ticket}
use Rattle.step_table.specs.declared.list_place.WaitRow.TheVariants.{Parked}
use Rattle.step_table.specs.declared.list_place.ListParkedRow.{ListParkedRow}
use Rattle.step_table.specs.Counting.{total}
use Rattle.step_table.specs.ListWorld.{Numbers, ListWorld, is_gone}
use Rattle.step_table.specs.ListTable.{wait_for}
use Rattle.step_law_lists.specs.ListLawful.{IsGranted, IsLawfulList}
use Rattle.step_law_lists.specs.ListCalls.{CallsConclude, GrantsLeast}
use Rattle.step_law_lists.specs.ListInvariant.{IsListInvariant}
use Rattle.step_law_lists.specs.ListWellFormed.{asleep_on_list}

-- while a seat isn't parked without a grant, the list and all hands together have room for its wait
abbrev pub HasRoom : ℕ → ListWorld → Type 0
HasRoom seats s =
    (k : ℕ) → k < seats → asleep_on_list (s.seats k).place (s.words.grants k) ≡ 0
    → length s.words.queue + total seats (λ j. length (s.seats j).hand) < seats

-- 1 where the ticket of number n isn't gone, and the next is: a run of gone tickets begins there
abbrev pub begins_run : ℕ → List ℕ → ℕ
begins_run n gone = cond {A = ℕ} (is_gone n gone) 0 (cond {A = ℕ} (is_gone (n + 1) gone) 1 0)

-- the gone tickets, all of which come after the first that is neither granted nor gone, form at most as many runs
-- as there are seats
abbrev pub FewRuns : ℕ → Numbers → Type 0
FewRuns seats numbers =
    total (numbers.handed - numbers.passed) (λ n. begins_run (numbers.passed + n) numbers.gone) ≤ seats

-- the seat i is about to grant the first wait in its hand: that of another seat k that is there, parked with
-- it and not granted, though its ticket is
pub record GrantsParked (seats i k : ℕ) (s : ListWorld) : Type 0 where
  pub ticket : Ticket
  pub row : ListParkedRow
  pub rest : List Wait
  pub hand : (s.seats i).hand ≡ wait_for k ticket ∷ rest
  pub there : k < seats
  pub other : k ≢ i
  pub parked : (s.seats k).place ≡ Waiting ticket (Parked row)
  pub unset : s.words.grants k ≡ 0
  pub granted : IsGranted ticket.number s.journal

-- a seat at rest has nothing in hand
abbrev pub RestsIdle : ℕ → ListWorld → Type 0
RestsIdle seats s = (k : ℕ) → k < seats → (s.seats k).place ≡ Rest → (s.seats k).hand ≡ []

abbrev pub AllRest : ℕ → ListWorld → Type 0
AllRest seats s = (k : ℕ) → k < seats → (s.seats k).place ≡ Rest

-- the lock is free, and nothing is left in list, grants and hands; a seat may still hold a ticket
pub record NothingLeft (seats : ℕ) (s : ListWorld) : Type 0 where
  pub lock : s.words.lock ≡ 0
  pub queue : s.words.queue ≡ []
  pub grants : (k : ℕ) → k < seats → s.words.grants k ≡ 0
  pub hands : (k : ℕ) → k < seats → (s.seats k).hand ≡ []

-- what is known of a world that steps reach
pub record ReachedList (first seats : ℕ) (s : ListWorld) : Type 0 where
  pub invariant : IsListInvariant first seats s
  pub lawful : IsLawfulList first seats s
  pub calls : CallsConclude first seats s
  pub least : (i : ℕ) → i < seats → GrantsLeast first s i
