-- What follows a row of the stored machine: a call of the semaphore of a group, and where the seat goes on.
use Rattle.std.proofs.Common.{◌≡◌, ◌≢◌, ℕ, zero, suc, ◌-◌, ◌<◌, false, length, slice_get, get_or, refl, sym, ap, ◌∙◌, subst, arith}
use Rattle.step_table.specs.declared.list_place.ListPlace.{ListPlace}
use Rattle.step_table.specs.declared.list_place.ListPlace.TheVariants as on_list
use Rattle.step_table.specs.declared.list_place.Ticket.{Ticket}
use Rattle.step_table.specs.declared.list_place.WaitRow.TheVariants.{E4}
use Rattle.step_table.specs.declared.place.AcquireRow.{AcquireRow}
use Rattle.step_table.specs.declared.place.ParkedRow.{ParkedRow}
use Rattle.step_table.specs.declared.place.AcquireRow.TheVariants.{A1, A3, D4, Parked}
use Rattle.step_table.specs.declared.place.ParkedRow.TheVariants.{D3}
use Rattle.step_table.specs.declared.place.ReleaseRow.TheVariants.{R1}
use Rattle.step_table.specs.declared.place.Place.{Place}
use Rattle.step_table.specs.declared.place.Acquire.{Acquire as AcquireCall}
use Rattle.step_table.specs.declared.place.Place.TheVariants.{Acquiring, Releasing, ReleasingMany}
use Rattle.step_table.specs.declared.place.Place.TheVariants as on_counter
use Rattle.step_table.specs.declared.standing.After.{After}
use Rattle.step_table.specs.declared.standing.Ending.{Ending}
use Rattle.step_table.specs.declared.standing.After.TheVariants.{Closes, LooksAgain, Releases}
use Rattle.step_table.specs.declared.standing.Ending.TheVariants.{NextCall, MayGiveUp, GaveUp, GivesBack}
use Rattle.step_table.specs.declared.standing.GroupNext.TheVariants.{Acquires, SleepsOn}
use Rattle.step_table.specs.declared.standing.GroupRow.TheVariants.{V3, V4}
use Rattle.step_table.specs.declared.standing.Standing.TheVariants.{AtGroup, Left}
use Rattle.step_rows.specs.Stored.{each, idle}
use Rattle.step_rows.specs.ListStored.{StoredList}
use Rattle.step_rows.specs.ListStored as stored_list
use Rattle.step_table.specs.Core.{CoreLayout, semaphore, Core}
use Rattle.step_table.specs.CoreSteps.{stands, at_counter, releases, goes_on, after_counter, after_list, after_group, closes_on_list, at_list, leaving, leaving_list, given_up, given_up_after, gives_up}
use Rattle.step_table.specs.CoreSteps.{gives_up_on_list, comes_late, ends_given_up, comes_late_on_list, ends_given_up_on_list}
use Rattle.step_table.specs.CoreSteps.{looks_again, staying}
use Rattle.step_table.specs.Counting.{counter_at}
use Rattle.step_table.specs.Steps.{moved}
use Rattle.step_core.specs.State.{WholeMachine, core_of, no_list, IsMachineFor, AreSameSize, Becomes}
use Rattle.step_core.proofs.Changing.{no_change, is_list, told_as}
use Rattle.step_table.specs.declared.call.GivingUp.{GivingUp}

-- releases on the semaphore of a group, and an acquire there
module _ (h k : WholeMachine) (i g : ℕ) where
  one_less : (n : ℕ) → suc n - 1 ≡ n
  one_less n = omega arith

  pub releases_more : (n : ℕ) → (n ≡ 0 → ⊥) → (c : ℕ) → ((m : CoreLayout) → IsMachineFor m h → c ≡ semaphore m g)
      → Becomes (λ m s. at_counter s i (Releasing (record { counter = c; handoff = false }) R1) (Releases g (n - 1))) h k
      → Becomes (λ m s. releases m s i g n) h k
  releases_more zero some c at is = absurd (some refl)
  releases_more (suc n) some c at is =
      told_as (λ m shape journal j.
      at_counter (core_of h journal) i (Releasing (record { counter = at m shape j; handoff = false }) R1) (Releases g (one_less n j))) is

  pub acquires_now : (ending : Ending) (c : ℕ) → ((m : CoreLayout) → IsMachineFor m h → c ≡ semaphore m g)
      → Becomes (λ m s. at_counter s i (Acquiring (record { counter = c; lifo = false }) A1) (LooksAgain g ending)) h k
      → Becomes (λ m s. after_group m s i g (Acquires ending)) h k
  acquires_now ending c at is =
      told_as (λ m shape journal.
      ap (λ d. at_counter (core_of h journal) i (Acquiring (record { counter = d; lifo = false }) A1) (LooksAgain g ending)) (at m shape)) is

-- nothing changes
pub no_change_of : (h : WholeMachine) → AreSameSize h h
no_change_of h = record {
  semaphores = no_change h.semaphores;
  lists = refl;
  seats = λ l. refl;
  groups = refl;
  standing = refl;
}

-- after a row on a counter the seat goes on where its call has ended, and else it stays
module _ (h shows : WholeMachine) (same : h ≡ shows) (i : ℕ) (after : After) (before : Place) where
  abbrev place : Place
  place = (each idle h.semaphores.callers i).place

  abbrev settled : CoreLayout → Core → Core
  settled m s = after_counter m s i after before (s.semaphores.seats i).place

  place_is : (p : Place) → place ≡ p → (each idle shows.semaphores.callers i).place ≡ p
  place_is p at = subst (λ (z : WholeMachine). (each idle z.semaphores.callers i).place ≡ p) same at

  pub settles_now : (k : WholeMachine) → place ≡ on_counter.Rest → Becomes (λ m s. goes_on m s i after before) shows k
      → Becomes settled shows k
  settles_now k ended is =
      told_as (λ m shape journal. ap (λ p. after_counter m (core_of shows journal) i after before p) (sym (place_is on_counter.Rest ended))) is

  -- who has given up, and finds no unit, doesn't queue again
  pub settles_left : (a : AcquireCall) (how : GivingUp) (k : WholeMachine) → place ≡ Acquiring a A3 → after ≡ Closes (GaveUp how)
      → Becomes (λ m s. stands (record s { semaphores = moved s.semaphores i on_counter.Rest }) i (Left how.skips)) shows k
      → Becomes settled shows k
  settles_left a how k at gave is =
      told_as (λ m shape journal j. after_counter m (core_of shows journal) i (sym gave j) before (sym (place_is (Acquiring a A3) at) j)) is

  -- who has given up, and whose wait is queued, goes on as its call says
  pub settles_queued : (a : AcquireCall) (next : AcquireRow) (turn : ℕ) (row : ParkedRow) (k : WholeMachine) → place ≡ Acquiring a next
      → next ≡ Parked turn row → row ≡ D3 → Becomes (λ m s. after_counter m s i after before (Acquiring a (Parked turn D3))) shows k
      → Becomes settled shows k
  settles_queued a next turn row k there at queued is =
      let here = place_is (Acquiring a (Parked turn D3)) (there ∙ ap (Acquiring a) (at ∙ ap (Parked turn) queued)) in
      told_as (λ m shape journal j. after_counter m (core_of shows journal) i after before (sym here j)) is

-- a wait on a group looks at its word where it is queued and has given up
module _ (h : WholeMachine) (i : ℕ) (a : AcquireCall) (turn : ℕ) (before : Place) where
  abbrev queued : CoreLayout → Core → After → Core
  queued m s after = after_counter m s i after before (Acquiring a (Parked turn D3))

  pub looks_queued : (g : ℕ) (how : GivingUp) (ending : Ending) → ending ≡ GaveUp how → (k : WholeMachine)
      → Becomes (λ m s. stands s i (AtGroup g (V4 how))) h k → Becomes (λ m s. queued m s (LooksAgain g ending)) h k
  looks_queued g how ending gave k = told_as (λ m shape journal j. queued m (core_of h journal) (LooksAgain g (sym gave j)))

-- who sleeps gives up
pub gives_up_now : (h shows : WholeMachine) → h ≡ shows → (i : ℕ) (after : After) (place next : Place) (ends : After)
    → place ≡ (each idle h.semaphores.callers i).place → next ≡ leaving place → ends ≡ given_up_after after → (k : WholeMachine)
    → Becomes (λ m s. at_counter s i next ends) shows k → Becomes (λ m s. gives_up s i after) shows k
gives_up_now h shows same i after was next ends at goes is k =
    told_as (λ m shape journal j.
    at_counter (core_of shows journal) i
    ((goes ∙ ap leaving (at ∙ ap (λ (z : WholeMachine). (each idle z.semaphores.callers i).place) same)) j) (is j))

-- the same after a row on a list
module _ (h shows : WholeMachine) (same : h ≡ shows) (i l n : ℕ) (ending : Ending) (before : ListPlace) (number : n ≡ l)
    (there : l < length shows.lists) (was : StoredList)
    (at : was ≡ get_or h.lists n was) where
  abbrev place_there : StoredList → ListPlace
  place_there z = (stored_list.seat_of (slice_get z.seats i)).place

  pub place_shown : place_there was ≡ place_there (each no_list shows.lists l)
  place_shown = ap place_there ((is_list h shows same l n number there was at).1 ∙ ap (λ (z : WholeMachine). each no_list z.lists l) same)

  pub ends_on_list : (k : WholeMachine) → place_there was ≡ on_list.Rest → Becomes (λ m s. closes_on_list s i l ending before) shows k
      → Becomes (λ m s. after_list s i l ending before ((s.lists l).seats i).place) shows k
  ends_on_list k ended is =
      told_as (λ m shape journal. ap (λ p. after_list (core_of shows journal) i l ending before p) (sym (sym place_shown ∙ ended))) is

  stays_there : (s : Core) (p : ListPlace) → p ≢ on_list.Rest → after_list s i l ending before p ≡ s
  stays_there s on_list.Rest awake = absurd (awake refl)
  stays_there s on_list.Adding awake = refl
  stays_there s (on_list.Waiting t row) awake = refl
  stays_there s (on_list.NotifyingOne a row) awake = refl
  stays_there s (on_list.NotifyingAll a row) awake = refl

  pub stays_on_list : place_there was ≢ on_list.Rest → Becomes (λ m s. after_list s i l ending before ((s.lists l).seats i).place) shows shows
  stays_on_list awake = record {
    alike = no_change_of shows;
    core = λ m shape journal.
        subst (λ (s : Core). core_of shows s.journal ≡ s)
        (sym (stays_there (core_of shows journal) (place_there (each no_list shows.lists l)) (λ e. awake (place_shown ∙ e)))) refl;
  }

  pub gives_up_on_list_now : (place next : ListPlace) (ends : Ending) → place ≡ place_there was → next ≡ leaving_list place → ends ≡ given_up ending
      → (k : WholeMachine) → Becomes (λ m s. at_list s i l next ends) shows k → Becomes (λ m s. gives_up_on_list s i l ending) shows k
  gives_up_on_list_now from next ends here goes is k =
      told_as (λ m shape journal j.
      at_list (core_of shows journal) i l ((goes ∙ ap leaving_list (here ∙ place_shown)) j) (is j))

-- a call that has given up ends
module _ (i : ℕ) (how : GivingUp) where
  comes_by : (s : Core) (p : Place) → ((a : AcquireCall) → p ≡ Acquiring a D4 → ⊥)
      → comes_late s i (counter_at p) how.skips how.late ≡ ends_given_up s i how p
  comes_by s (Acquiring a D4) other = absurd (other a refl)
  comes_by s (Acquiring a row) other = refl
  comes_by s on_counter.Rest other = refl
  comes_by s (Releasing r row) other = refl
  comes_by s (ReleasingMany r row) other = refl

  pub ends_late : (h k : WholeMachine) (p : Place) → ((a : AcquireCall) → p ≡ Acquiring a D4 → ⊥) → (c : ℕ) → c ≡ counter_at p
      → Becomes (λ m s. comes_late s i c how.skips how.late) h k → Becomes (λ m s. ends_given_up s i how p) h k
  ends_late h k p other c at =
      told_as (λ m shape journal.
      ap (λ c. comes_late (core_of h journal) i c how.skips how.late) at ∙ comes_by (core_of h journal) p other)

  pub ends_withdrawn : (h k : WholeMachine) (p : Place) (a : AcquireCall) → p ≡ Acquiring a D4 → Becomes (λ m s. stands s i (Left how.skips)) h k
      → Becomes (λ m s. ends_given_up s i how p) h k
  ends_withdrawn h k p a at = told_as (λ m shape journal. ap (ends_given_up (core_of h journal) i how) (sym at))

-- and so does a wait on a group
module _ (i g : ℕ) where
  looks_on : (s : Core) (ending : Ending) (p : Place) → ((how : GivingUp) (a : AcquireCall) → ending ≡ GaveUp how → p ≡ Acquiring a D4 → ⊥)
      → stands s i (AtGroup g (V3 ending)) ≡ looks_again s i g ending p
  looks_on s (GaveUp how) (Acquiring a D4) other = absurd (other how a refl refl)
  looks_on s (GaveUp how) (Acquiring a row) other = refl
  looks_on s (GaveUp how) on_counter.Rest other = refl
  looks_on s (GaveUp how) (Releasing r row) other = refl
  looks_on s (GaveUp how) (ReleasingMany r row) other = refl
  looks_on s NextCall p other = refl
  looks_on s (MayGiveUp how) p other = refl
  looks_on s (GivesBack skips) p other = refl

  pub looks_again_now : (h k : WholeMachine) (ending : Ending) (p : Place)
      → ((how : GivingUp) (a : AcquireCall) → ending ≡ GaveUp how → p ≡ Acquiring a D4 → ⊥)
      → Becomes (λ m s. stands s i (AtGroup g (V3 ending))) h k → Becomes (λ m s. looks_again s i g ending p) h k
  looks_again_now h k ending p other = told_as (λ m shape journal. looks_on (core_of h journal) ending p other)

  pub has_left_group : (h k : WholeMachine) (ending : Ending) (p : Place) (how : GivingUp) (a : AcquireCall) → ending ≡ GaveUp how
      → p ≡ Acquiring a D4 → Becomes (λ m s. stands s i (Left how.skips)) h k → Becomes (λ m s. looks_again s i g ending p) h k
  has_left_group h k ending p how a gave at = told_as (λ m shape journal j. looks_again (core_of h journal) i g (sym gave j) (sym at j))

  -- or sleeps on
  pub sleeps_on_now : (h shows : WholeMachine) → h ≡ shows → (place next : Place) (how : GivingUp)
      → place ≡ (each idle h.semaphores.callers i).place → next ≡ staying place → (k : WholeMachine)
      → Becomes (λ m s. at_counter s i next (LooksAgain g (GaveUp how))) shows k
      → Becomes (λ m s. after_group m s i g (SleepsOn how)) shows k
  sleeps_on_now h shows same was next how at goes k =
      told_as (λ m shape journal j.
      at_counter (core_of shows journal) i
      ((goes ∙ ap staying (at ∙ ap (λ (z : WholeMachine). (each idle z.semaphores.callers i).place) same)) j) (LooksAgain g (GaveUp how)))

-- and on a list
module _ (i l : ℕ) (how : GivingUp) where
  comes_by_ticket : (s : Core) (p : ListPlace) → ((t : Ticket) → p ≡ on_list.Waiting t E4 → ⊥)
      → comes_late_on_list s i l how.skips how.late ≡ ends_given_up_on_list s i l how p
  comes_by_ticket s (on_list.Waiting t E4) other = absurd (other t refl)
  comes_by_ticket s (on_list.Waiting t row) other = refl
  comes_by_ticket s on_list.Rest other = refl
  comes_by_ticket s on_list.Adding other = refl
  comes_by_ticket s (on_list.NotifyingOne a row) other = refl
  comes_by_ticket s (on_list.NotifyingAll a row) other = refl

  pub ends_late_on_list : (h k : WholeMachine) (p : ListPlace) → ((t : Ticket) → p ≡ on_list.Waiting t E4 → ⊥)
      → Becomes (λ m s. comes_late_on_list s i l how.skips how.late) h k → Becomes (λ m s. ends_given_up_on_list s i l how p) h k
  ends_late_on_list h k p other = told_as (λ m shape journal. comes_by_ticket (core_of h journal) p other)

  pub ends_left : (h k : WholeMachine) (p : ListPlace) (t : Ticket) → p ≡ on_list.Waiting t E4 → Becomes (λ m s. stands s i (Left how.skips)) h k
      → Becomes (λ m s. ends_given_up_on_list s i l how p) h k
  ends_left h k p t at = told_as (λ m shape journal. ap (ends_given_up_on_list (core_of h journal) i l how) (sym at))
