-- The law of one notify list.
use Rattle.std.specs.Prelude.{◌≡◌, ℕ, ◌<◌, ◌≤◌, ◌⊎◌, [], None}
use Rattle.waiters.specs.declared.wait.Wait.{Wait}
use Rattle.step_table.specs.declared.list_place.ListPlace.TheVariants.{Rest, Waiting}
use Rattle.step_table.specs.declared.list_place.Ticket.{Ticket}
use Rattle.step_table.specs.declared.list_place.WaitRow.TheVariants.{Parked}
use Rattle.step_table.specs.declared.list_place.ListParkedRow.TheVariants.{P}
use Rattle.step_table.specs.Wrapping.{LessMeans, BoundsAreTight}
use Rattle.step_table.specs.ListWorld.{ListWorld, first_list}
use Rattle.step_table.specs.ListTable.{wait_for}
use Rattle.step_table.specs.ListSteps.{ListTurn, ListStep, IsListReached, IsListEnd}
use Rattle.step_law_lists.specs.ListLawful.{told, times, NoneLate, IsInReach, IsLawfulList}
use Rattle.step_law_lists.specs.ListInvariant.{IsListInvariant}
use Rattle.step_law_lists.specs.ListCalls.{CallsConclude, GrantsLeast, TellsSince, TakesOwn, EarlyNoneLate}
use Rattle.step_law_lists.specs.ListCalls.{NoneLateInTime, FewNeverFar, FewInReach}
use Rattle.step_law_lists.specs.ListGrants.{EachGrantsLeast, RowsGrantLeast, EachGoes, RowsGo}
use Rattle.step_law_lists.specs.ListBlind.{RowsAreBlind}

-- the lock is free, and each seat is at rest or parked with its wait in the list and no grant, the ticket
-- not passed where no seat has looked at a late one
abbrev pub IsListAtRest : ℕ → ListWorld → Type 0
IsListAtRest seats s =
    (s.words.lock ≡ 0)
    × ((k : ℕ) → k < seats → ((s.seats k).place ≡ Rest)
    ⊎ ((t : Ticket) × ((s.seats k).place ≡ Waiting t (Parked P)) × (s.words.grants k ≡ 0)
    × (0 < times (wait_for k t) s.words.queue)
    × (NoneLate seats s → (told s.journal).passed ≤ t.number)))

-- where every seat is at rest and holds no ticket, every ticket is granted or gone, none is gone that isn't
-- passed, the words are equal, the lock is free and nobody waits
abbrev pub IsClosed : ℕ → ListWorld → Type 0
IsClosed seats s =
    ((k : ℕ) → k < seats → ((s.seats k).place ≡ Rest) × ((s.seats k).ticket ≡ None))
    → ((told s.journal).handed ≡ (told s.journal).passed) × (s.words.wait ≡ s.words.notify)
    × (s.words.lock ≡ 0)
    × ((w : Wait) → times w s.words.queue ≡ 0) × (s.words.gone ≡ [])

-- while the numbers handed out and passed are at most 2^63 apart, and none leaves whose ticket was passed: the
-- invariant holds at every start, every step keeps it, and it gives the whole lawful world, what a row grants, what
-- calls may conclude, and what holds in an end world and where every seat is at rest. Rows are deterministic, and
-- look at no number
pub record TheListLaw : Type 0 where
  pub starts : (first seats : ℕ) → IsListInvariant first seats (first_list first)
  pub kept : (first seats i : ℕ) (s t : ListWorld) → IsInReach t.journal → i < seats
      → IsListInvariant first seats s
      → ListStep s i t → IsListInvariant first seats t
  pub lawful : (first seats : ℕ) (s : ListWorld) → IsListInvariant first seats s → IsLawfulList first seats s
  pub reached : (first seats : ℕ) (s : ListWorld) → IsInReach s.journal → IsListReached first seats s
      → IsLawfulList first seats s
  pub least : (first seats i : ℕ) (s : ListWorld) → i < seats → IsListInvariant first seats s
      → GrantsLeast first s i
  pub granted : (first seats : ℕ) (s : ListWorld) → IsInReach s.journal → IsListReached first seats s
      → EachGrantsLeast first seats s.journal × RowsGrantLeast first seats s
  pub gone : (first seats : ℕ) (s : ListWorld) → IsInReach s.journal → IsListReached first seats s
      → EachGoes first seats s.journal × RowsGo first seats s
  pub calls : (first seats : ℕ) (s : ListWorld) → IsInReach s.journal → IsListInvariant first seats s
      → CallsConclude first seats s
  pub tells : TellsSince
  pub own : (first seats : ℕ) (s : ListWorld) → IsInReach s.journal → IsListInvariant first seats s
      → TakesOwn seats s
  pub early : EarlyNoneLate
  pub in_time : NoneLateInTime
  pub near : FewNeverFar
  pub few : FewInReach
  pub ends : (first seats : ℕ) (s : ListWorld) → IsListInvariant first seats s → IsListEnd seats s
      → IsListAtRest seats s
  pub closed : (first seats : ℕ) (s : ListWorld) → IsListInvariant first seats s → IsClosed seats s
  pub sole : (s t u : ListWorld) (i : ℕ) → ListTurn s i t → ListTurn s i u → t ≡ u
  pub less_means : LessMeans
  pub tight : BoundsAreTight
  pub blind : RowsAreBlind
