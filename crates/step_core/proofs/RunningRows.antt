-- A row of the whole machine: it is that of the part that the seat's call is on, and then what comes after it; and what the
-- journal tells of it.
use Rattle.std.proofs.Common.{◌≡◌, ℕ, zero, suc, List, [], Option, refl, sym, ◌∙◌, subst, ◌<◌, length, get_or, Bool, true, false, if◌then◌else◌}
use Rattle.std.proofs.lemmas.List.{get_or_default}
use Rattle.step_table.specs.declared.entry.Entry.{Entry}
use Rattle.step_table.specs.declared.group_word.GroupWord.{GroupWord}
use Rattle.step_rows.specs.declared.ready.ListReady.{ListReady}
use Rattle.step_table.specs.declared.effect.Effect.{Effect}
use Rattle.step_table.specs.declared.effect.Effect.TheVariants.{Tells}
use Rattle.step_table.specs.declared.place.Place.{Place}
use Rattle.step_table.specs.declared.place.Place.TheVariants as on_counter
use Rattle.step_rows.specs.declared.ready.Ready.{Ready}
use Rattle.step_table.specs.declared.standing.After.{After}
use Rattle.step_table.specs.declared.standing.After.TheVariants.{Closes, LooksAgain, Releases}
use Rattle.step_table.specs.declared.standing.Ending.TheVariants.{MayGiveUp, GaveUp}
use Rattle.step_table.specs.declared.standing.GroupNext.{GroupNext}
use Rattle.step_table.specs.declared.standing.GroupRow.{GroupRow}
use Rattle.step_table.specs.declared.standing.Standing.{Standing}
use Rattle.step_table.specs.declared.standing.Ending.{Ending}
use Rattle.step_table.specs.declared.standing.Standing.TheVariants.{Rest, AtCounter, AtList, AtGroup, Failed, Left}
use Rattle.step_core.specs.declared.turn.Turn.TheVariants.{OnCounter, OnList, OnGroup, GivesUp, GivesUpOnList}
use Rattle.step_table.specs.World.{put, journal_after}
use Rattle.step_table.specs.Steps.{finds}
use Rattle.step_rows.specs.Stored.{SemaMachine, IsReadyFor, HasTurned, each, world_of, finds_in, event_in, idle}
use Rattle.step_rows.specs.Stored as sema
use Rattle.step_rows.specs.ListStored.{IsListReady}
use Rattle.step_table.specs.Group.{empty_word, group_row}
use Rattle.step_table.specs.Core.{CoreLayout, Core}
use Rattle.step_table.specs.CoreSteps.{releases, goes_on, after_counter, after_group, counter_row, row_of_standing, core_turned}
use Rattle.step_table.specs.CoreSteps.{on_counter_row, gives_up, may_give_up, comes_late, ends_given_up, looks_again}
use Rattle.step_table.specs.CoreSteps.{on_list_row, gives_up_on_list, may_give_up_on_list, comes_late_on_list, ends_given_up_on_list, closes_on_list, after_list}
use Rattle.step_table.specs.CoreSteps.{list_row}
use Rattle.step_core.specs.State.{WholeMachine, Becomes, IsMachineFor, HasRunRow, IsReadyAt, core_of, no_list, and_then, gives_up_in, gives_up_on_list_in}
use Rattle.step_core.proofs.Changing.{turns_at, told_as}
use Rattle.step_core.proofs.Changing as changing
use Rattle.step_table.specs.declared.call.GivingUp.{GivingUp}
use Rattle.step_table.specs.declared.call.Late.{Late}
use Rattle.step_table.specs.declared.call.Late.TheVariants.{Kept, GivenBack}
use Rattle.step_table.specs.declared.place.AcquireRow.TheVariants.{A3, D4, Parked}
use Rattle.step_table.specs.declared.place.ParkedRow.TheVariants.{D3}
use Rattle.step_table.specs.declared.list_place.ListPlace.{ListPlace}
use Rattle.step_table.specs.declared.list_place.ListPlace.TheVariants as on_list
use Rattle.step_table.specs.declared.list_place.WaitRow.TheVariants.{E4}

-- the row of a seat that does this
pub at_standing : (h k : WholeMachine) (i : ℕ) (x : Standing) → each Rest h.standing i ≡ x
    → Becomes (λ m s. row_of_standing m s i x) h k → Becomes (λ m s. core_turned m s i) h k
at_standing h k i x at becomes = record {
  alike = becomes.alike;
  core = λ m is journal.
      subst (λ x. core_of k (row_of_standing m (core_of h journal) i x).journal ≡ row_of_standing m (core_of h journal) i x) (sym at)
      (becomes.core m is journal);
}

-- the row of a group, of which the code has computed what it leaves and what follows
pub of_group : (h k : WholeMachine) (i g : ℕ) (row : GroupRow) (next : GroupWord × GroupNext) → next ≡ group_row row (each empty_word h.groups g)
    → Becomes (λ m s. after_group m (record s { groups = put s.groups g next.0 }) i g next.1) h k
    → Becomes (λ m s. row_of_standing m s i (AtGroup g row)) h k
of_group h k i g row next at becomes = record {
  alike = becomes.alike;
  core = λ m is journal. subst (λ n. core_of k (with m journal n).journal ≡ with m journal n) at (becomes.core m is journal);
}
  where
    with : CoreLayout → List Entry → GroupWord × GroupNext → Core
    with m journal n = let s : Core = core_of h journal in after_group m (record s { groups = put s.groups g n.0 }) i g n.1

-- the word that the code reads
pub group_word : (h shows : WholeMachine) → h ≡ shows → (g n : ℕ) → n ≡ g → g < length shows.groups → (x : GroupWord) → x ≡ get_or h.groups n x
    → x ≡ each empty_word shows.groups g
group_word h shows same g n number there x at =
    let here : n < length h.groups =
    subst (λ k. k < length h.groups) (sym number) (subst (λ (z : WholeMachine). g < length z.groups) (sym same) there) in
    at ∙ sym (get_or_default h.groups n empty_word x here) ∙ (λ j. each empty_word (same j).groups (number j))

-- the standing of a seat whose row is this, and that it can run
module _ (h : WholeMachine) (i : ℕ) where
  pub on_counter_is : (x : Standing) (after : After) (ready : Ready) → IsReadyAt h i x (OnCounter after ready)
      → (x ≡ AtCounter after) × IsReadyFor h.semaphores i ready × (gives_up_in h i after ≡ false)
  on_counter_is (AtCounter now) after ready is =
      ((λ j. AtCounter (sym is.0 j)), is.1, subst (λ a. gives_up_in h i a ≡ false) (sym is.0) is.3)
  on_counter_is (Left skips) after ready is = absurd is
  on_counter_is Rest after ready is = absurd is
  on_counter_is (AtList l ending) after ready is = absurd is
  on_counter_is (AtGroup g row) after ready is = absurd is
  on_counter_is (Failed misuse) after ready is = absurd is

  pub on_list_is : (x : Standing) (l : ℕ) (ending : Ending) (ready : ListReady) → IsReadyAt h i x (OnList l ending ready)
      → (x ≡ AtList l ending) × IsListReady (each no_list h.lists l) i ready × (gives_up_on_list_in h l i ending ≡ false)
      × (l < length h.lists)
  on_list_is (AtList k now) l ending ready is = (
    (λ j. AtList (sym is.0 j) (sym is.1 j)),
    subst (λ n. IsListReady (each no_list h.lists n) i ready) (sym is.0) is.3,
    (λ j. gives_up_on_list_in h (is.0 j) i (is.1 j)) ∙ is.4,
    subst (λ n. n < length h.lists) (sym is.0) is.2,
  )
  on_list_is Rest l ending ready is = absurd is
  on_list_is (Left skips) l ending ready is = absurd is
  on_list_is (AtCounter after) l ending ready is = absurd is
  on_list_is (AtGroup g row) l ending ready is = absurd is
  on_list_is (Failed misuse) l ending ready is = absurd is

  pub gives_up_on_list_is : (x : Standing) (l : ℕ) (ending : Ending) → IsReadyAt h i x (GivesUpOnList l ending)
      → (x ≡ AtList l ending) × (gives_up_on_list_in h l i ending ≡ true)
  gives_up_on_list_is (AtList k now) l ending is =
      ((λ j. AtList (sym is.0 j) (sym is.1 j)), (λ j. gives_up_on_list_in h (is.0 j) i (is.1 j)) ∙ is.3)
  gives_up_on_list_is Rest l ending is = absurd is
  gives_up_on_list_is (Left skips) l ending is = absurd is
  gives_up_on_list_is (AtCounter after) l ending is = absurd is
  gives_up_on_list_is (AtGroup g row) l ending is = absurd is
  gives_up_on_list_is (Failed misuse) l ending is = absurd is

  pub on_group_is : (x : Standing) (g : ℕ) (row : GroupRow) → IsReadyAt h i x (OnGroup g row)
      → (x ≡ AtGroup g row) × (g < length h.groups)
  on_group_is (AtGroup k now) g row is = ((λ j. AtGroup (sym is.0 j) (sym is.1 j)), subst (λ n. n < length h.groups) (sym is.0) is.2)
  on_group_is Rest g row is = absurd is
  on_group_is (Left skips) g row is = absurd is
  on_group_is (AtCounter after) g row is = absurd is
  on_group_is (AtList l ending) g row is = absurd is
  on_group_is (Failed misuse) g row is = absurd is

  pub gives_up_is : (x : Standing) (after : After) → IsReadyAt h i x (GivesUp after) → (x ≡ AtCounter after) × (gives_up_in h i after ≡ true)
  gives_up_is (AtCounter now) after is = ((λ j. AtCounter (sym is.0 j)), subst (λ a. gives_up_in h i a ≡ true) (sym is.0) is.1)
  gives_up_is Rest after is = absurd is
  gives_up_is (AtList l ending) after is = absurd is
  gives_up_is (AtGroup g row) after is = absurd is
  gives_up_is (Left skips) after is = absurd is
  gives_up_is (Failed misuse) after is = absurd is

-- a row on a counter of a seat that doesn't give up, or that does
module _ (h k : WholeMachine) (i : ℕ) (after : After) where
  abbrev pub of_test : Bool → CoreLayout → Core → Core
  of_test b m s = if b then gives_up s i after else on_counter_row m s i after

  pub same_test : (m : CoreLayout) (journal : List Entry) → may_give_up (core_of h journal).semaphores i after ≡ gives_up_in h i after
  same_test m journal = by after
    where
      by : (after : After) → may_give_up (core_of h journal).semaphores i after ≡ gives_up_in h i after
      by (Closes (MayGiveUp how)) = refl
      by (LooksAgain g (MayGiveUp how)) = refl
      by _ = refl

  pub of_counter : gives_up_in h i after ≡ false → Becomes (λ m s. on_counter_row m s i after) h k
      → Becomes (λ m s. row_of_standing m s i (AtCounter after)) h k
  of_counter stays = told_as (λ m shape journal j. of_test (sym (same_test m journal ∙ stays) j) m (core_of h journal))

  pub of_giving_up : gives_up_in h i after ≡ true → Becomes (λ m s. gives_up s i after) h k
      → Becomes (λ m s. row_of_standing m s i (AtCounter after)) h k
  of_giving_up leaves = told_as (λ m shape journal j. of_test (sym (same_test m journal ∙ leaves) j) m (core_of h journal))

-- a row, and then what comes after it, by the place at which the seat stood
pub then_settled : (h k : WholeMachine) (i : ℕ) (after : After) (before : Place) → before ≡ (each idle h.semaphores.callers i).place
    → (n : WholeMachine) → Becomes (λ m s. counter_row m s i) h n
    → Becomes (λ m s. after_counter m s i after before (s.semaphores.seats i).place) n k
    → Becomes (λ m s. on_counter_row m s i after) h k
then_settled h k i after before was n ran settled =
    told_as (λ m shape journal j.
    let t : Core = counter_row m (core_of h journal) i in after_counter m t i after (was j) (t.semaphores.seats i).place)
    (changing.and_then ran settled)

-- the same on a list
module _ (h k : WholeMachine) (i l : ℕ) (ending : Ending) where
  abbrev pub of_list_test : Bool → Core → Core
  of_list_test b s = if b then gives_up_on_list s i l ending else on_list_row s i l ending

  pub same_list_test : (journal : List Entry)
      → may_give_up_on_list ((core_of h journal).lists l) i ending ≡ gives_up_on_list_in h l i ending
  same_list_test journal = by ending
    where
      by : (ending : Ending) → may_give_up_on_list ((core_of h journal).lists l) i ending ≡ gives_up_on_list_in h l i ending
      by (MayGiveUp how) = refl
      by _ = refl

  pub of_list : gives_up_on_list_in h l i ending ≡ false → Becomes (λ m s. on_list_row s i l ending) h k
      → Becomes (λ m s. row_of_standing m s i (AtList l ending)) h k
  of_list stays = told_as (λ m shape journal j. of_list_test (sym (same_list_test journal ∙ stays) j) (core_of h journal))

  pub of_giving_up_on_list : gives_up_on_list_in h l i ending ≡ true → Becomes (λ m s. gives_up_on_list s i l ending) h k
      → Becomes (λ m s. row_of_standing m s i (AtList l ending)) h k
  of_giving_up_on_list leaves = told_as (λ m shape journal j. of_list_test (sym (same_list_test journal ∙ leaves) j) (core_of h journal))

-- where the seat stands is where it is shown to stand
pub place_shown : (h shows : WholeMachine) → h ≡ shows → (i : ℕ) (place : Place) → place ≡ (each idle h.semaphores.callers i).place
    → place ≡ (each idle shows.semaphores.callers i).place
place_shown h shows same i place at = at ∙ (λ j. (each idle (same j).semaphores.callers i).place)

pub then_settled_on_list : (h k : WholeMachine) (i l : ℕ) (ending : Ending) (before : ListPlace)
    → ((journal : List Entry) → before ≡ (((core_of h journal).lists l).seats i).place)
    → (n : WholeMachine) → Becomes (λ m s. list_row s i l) h n
    → Becomes (λ m s. after_list s i l ending before ((s.lists l).seats i).place) n k
    → Becomes (λ m s. on_list_row s i l ending) h k
then_settled_on_list h k i l ending before was n ran settled =
    told_as (λ m shape journal j.
    let t : Core = list_row (core_of h journal) i l in after_list t i l ending (was journal j) ((t.lists l).seats i).place)
    (changing.and_then ran settled)

-- what follows a row tells nothing
module _ (m : CoreLayout) (s : Core) (i : ℕ) where
  pub releases_quiet : (g n : ℕ) → (releases m s i g n).journal ≡ s.journal
  releases_quiet g zero = refl
  releases_quiet g (suc more) = refl

  late_quiet : (c skips : ℕ) (late : Late) → (comes_late s i c skips late).journal ≡ s.journal
  late_quiet c skips Kept = refl
  late_quiet c skips GivenBack = refl

  given_up_quiet : (how : GivingUp) (before : Place) → (ends_given_up s i how before).journal ≡ s.journal
  given_up_quiet how (on_counter.Acquiring a D4) = refl
  given_up_quiet how before = late_quiet _ how.skips how.late

  looks_again_quiet : (g : ℕ) (ending : Ending) (before : Place) → (looks_again s i g ending before).journal ≡ s.journal
  looks_again_quiet g (GaveUp how) (on_counter.Acquiring a D4) = refl
  looks_again_quiet g ending before = refl

  goes_on_quiet : (after : After) (before : Place) → (goes_on m s i after before).journal ≡ s.journal
  goes_on_quiet (Closes (GaveUp how)) before = given_up_quiet how before
  goes_on_quiet (LooksAgain g ending) before = looks_again_quiet g ending before
  goes_on_quiet (Releases g more) before = releases_quiet g more
  goes_on_quiet after before = refl

  pub counter_quiet : (after : After) (before place : Place) → (after_counter m s i after before place).journal ≡ s.journal
  counter_quiet after before on_counter.Rest = goes_on_quiet after before
  counter_quiet (Closes (GaveUp how)) before (on_counter.Acquiring a A3) = refl
  counter_quiet (Closes (GaveUp how)) before (on_counter.Acquiring a row) = refl
  counter_quiet (LooksAgain g (GaveUp how)) before (on_counter.Acquiring a (Parked turn D3)) = refl
  counter_quiet (LooksAgain g (GaveUp how)) before (on_counter.Acquiring a row) = refl
  counter_quiet after before (on_counter.Acquiring a row) = refl
  counter_quiet after before (on_counter.Releasing r row) = refl
  counter_quiet after before (on_counter.ReleasingMany r row) = refl

-- nor does what follows a row on a list
module _ (s : Core) (i l : ℕ) where
  late_on_list_quiet : (skips : ℕ) (late : Late) → (comes_late_on_list s i l skips late).journal ≡ s.journal
  late_on_list_quiet skips Kept = refl
  late_on_list_quiet skips GivenBack = refl

  given_up_on_list_quiet : (how : GivingUp) (before : ListPlace) → (ends_given_up_on_list s i l how before).journal ≡ s.journal
  given_up_on_list_quiet how (on_list.Waiting t E4) = refl
  given_up_on_list_quiet how before = late_on_list_quiet how.skips how.late

  closes_on_list_quiet : (ending : Ending) (before : ListPlace) → (closes_on_list s i l ending before).journal ≡ s.journal
  closes_on_list_quiet (GaveUp how) before = given_up_on_list_quiet how before
  closes_on_list_quiet ending before = refl

  pub list_quiet : (ending : Ending) (before place : ListPlace) → (after_list s i l ending before place).journal ≡ s.journal
  list_quiet ending before on_list.Rest = closes_on_list_quiet ending before
  list_quiet ending before place = refl

-- the journal with what an effect tells
pub counter_tells : (e : Effect) (journal : List Entry) → journal_after e journal ≡ and_then journal (sema.entry_of e)
counter_tells (Tells e) journal = refl
counter_tells _ journal = refl

-- a row on a counter tells its effect
module _ (h : WholeMachine) (i : ℕ) (after : After) (at : each Rest h.standing i ≡ AtCounter after)
    (stays : gives_up_in h i after ≡ false)
    (effect : Effect) (is : effect ≡ ((event_in h.semaphores i).leads (finds_in h.semaphores i)).1) where
  effect_told : (m : CoreLayout) → IsMachineFor m h → (journal : List Entry)
      → (core_turned m (core_of h journal) i).journal ≡ and_then journal (sema.entry_of effect)
  effect_told m shape journal =
      let t : Core = counter_row m (core_of h journal) i in
      (λ j. (row_of_standing m (core_of h journal) i (at j)).journal)
      ∙ (λ j. (of_test h h i after ((same_test h h i after m journal ∙ stays) j) m (core_of h journal)).journal)
      ∙ counter_quiet m t i after ((core_of h journal).semaphores.seats i).place (t.semaphores.seats i).place
      ∙ (λ j. journal_after ((event_in h.semaphores i).leads (finds (sym shape.root j) (world_of h.semaphores []) i)).1 journal)
      ∙ (λ j. journal_after (sym is j) journal)
      ∙ counter_tells effect journal

-- a row on a counter that was run at once, and then what comes after it
pub ran_on_counter : (h shows : WholeMachine) → h ≡ shows → (i : ℕ) (after : After) → each Rest shows.standing i ≡ AtCounter after
    → gives_up_in shows i after ≡ false
    → (effect : Effect) (n : SemaMachine) → HasTurned h.semaphores i effect n
    → (k : WholeMachine) (before : Place) → before ≡ (each idle h.semaphores.callers i).place
    → Becomes (λ m s. after_counter m s i after before (s.semaphores.seats i).place) (record h { semaphores = n }) k
    → (entry : Option Entry) → entry ≡ sema.entry_of effect → HasRunRow i shows k entry
ran_on_counter h shows same i after at stays effect n turned k before was settled entry is =
    let effect_is : effect ≡ ((event_in shows.semaphores i).leads (finds_in shows.semaphores i)).1
    = turned.effect_is ∙ (λ j. ((event_in (same j).semaphores i).leads (finds_in (same j).semaphores i)).1) in
    subst (HasRunRow i shows k) (sym is) (record {
      turned =
          at_standing shows k i (AtCounter after) at
          (of_counter shows k i after stays
          (then_settled shows k i after before (was ∙ (λ j. (each idle (same j).semaphores.callers i).place))
          _ (turns_at h shows same i effect n turned) settled));
      told = effect_told shows i after at stays effect effect_is;
    })
