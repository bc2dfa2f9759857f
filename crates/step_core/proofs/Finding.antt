-- What the row of a seat finds is what the machine reads in the row's word.
use Rattle.std.proofs.Common.{◌≡◌, ◌==◌, ◌&&◌, ℕ, true, List, Some, refl, sym, ap, ◌∙◌, eqb-true}
use Rattle.std.proofs.lemmas.Option.{get_or_from_slice_get}
use Rattle.step_table.specs.declared.entry.Entry.{Entry}
use Rattle.step_table.specs.declared.standing.After.{After}
use Rattle.step_table.specs.declared.standing.After.TheVariants.{Closes, LooksAgain, Releases}
use Rattle.step_table.specs.declared.standing.Ending.{Ending}
use Rattle.step_table.specs.declared.standing.Ending.TheVariants.{NextCall, MayGiveUp, GaveUp, GivesBack}
use Rattle.step_table.specs.declared.standing.Standing.TheVariants.{Rest, AtCounter, AtList}
use Rattle.step_table.specs.declared.list_place.ListPlace.{ListPlace}
use Rattle.step_table.specs.declared.list_place.ListPlace.TheVariants as on_list
use Rattle.step_table.specs.declared.list_place.WaitRow.TheVariants as wait_row
use Rattle.step_table.specs.declared.list_place.ListParkedRow.TheVariants as list_row
use Rattle.step_table.specs.declared.list_place.Ticket.{Ticket}
use Rattle.step_table.specs.declared.place.Acquire.{Acquire}
use Rattle.step_table.specs.declared.place.AcquireRow.TheVariants.{Parked}
use Rattle.step_table.specs.declared.place.ParkedRow.TheVariants.{P}
use Rattle.step_table.specs.declared.place.Place.{Place}
use Rattle.step_table.specs.declared.place.Place.TheVariants as on_counter
use Rattle.step_table.specs.Table.{event_at}
use Rattle.step_table.specs.ListTable.{list_event_at}
use Rattle.step_table.specs.ListWorld as list
use Rattle.step_table.specs.CoreSteps.{gives_up_at, gives_up_on_list_at, is_asleep}
use Rattle.step_rows.specs.declared.ready.Ready.{Ready}
use Rattle.step_core.specs.declared.found.WordFound.{WordFound}
use Rattle.step_core.specs.declared.found.WordFound.TheVariants.{Number}
use Rattle.step_core.specs.declared.turn.Turn.TheVariants.{OnCounter}
use Rattle.step_table.specs.World.{found}
use Rattle.step_table.specs.Core.{CoreLayout}
use Rattle.step_rows.specs.Stored.{each, idle, root_of, stored_words, hands_of, row_event}
use Rattle.step_core.specs.Finding.{found_on_counter, found_doing}
use Rattle.step_core.specs.State.{WholeMachine, IsMachineFor, IsReadyAt, core_of, list_of, gives_up_in, gives_up_on_list_in}
use Rattle.step_core.proofs.RunningRows.{on_counter_is}

module _ (h shows : WholeMachine) (same : h ≡ shows) (i : ℕ) (after : After) (ready : Ready)
    (is : IsReadyAt shows i (each Rest shows.standing i) (OnCounter after ready)) where
  pub counter_finds : (number : ℕ) → number ≡ found (root_of h.semaphores.stored) (stored_words h.semaphores.stored) ready.word
      → (f : WordFound) → f ≡ found_on_counter ready.caller.place number
      → (m : CoreLayout) → IsMachineFor m shows → (journal : List Entry)
      → found_doing m (core_of shows journal) i (each Rest shows.standing i) ≡ Some f
  counter_finds number reads f says m shape journal =
      let at = on_counter_is shows i (each Rest shows.standing i) after ready is in
      let here : each idle shows.semaphores.callers i ≡ ready.caller
      = get_or_from_slice_get shows.semaphores.callers i ready.caller idle at.1.there in
      let stored = shows.semaphores.stored in
      (λ j. found_doing m (core_of shows journal) i (at.0 j))
      ∙ ap Some
      ((λ j. found_on_counter (here j).place
      (found (sym shape.root j) (stored_words stored) (row_event i (here j) stored (hands_of stored i)).word))
      ∙ ap (λ w. found_on_counter ready.caller.place (found (root_of stored) (stored_words stored) w)) (sym at.1.row.word)
      ∙ ap (found_on_counter ready.caller.place)
      (sym (reads ∙ ap (λ (z : WholeMachine). found (root_of z.semaphores.stored) (stored_words z.semaphores.stored) ready.word) same))
      ∙ sym says)

-- who sleeps looks at its grant word
asleep : (place : Place) (grant : ℕ) → (is_asleep place && (grant == 0)) ≡ true
    → ((a : Acquire) × (turn : ℕ) × (place ≡ on_counter.Acquiring a (Parked turn P))) × (grant ≡ 0)
asleep (on_counter.Acquiring a (Parked turn P)) grant e = ((a, turn, refl), eqb-true grant 0 e)
asleep (on_counter.Acquiring a (Parked turn row)) grant e = absurd cc
asleep (on_counter.Acquiring a row) grant e = absurd cc
asleep on_counter.Rest grant e = absurd cc
asleep (on_counter.Releasing r row) grant e = absurd cc
asleep (on_counter.ReleasingMany r row) grant e = absurd cc

sleeps : (place : Place) (grant : ℕ) (after : After) → gives_up_at place grant after ≡ true
    → ((a : Acquire) × (turn : ℕ) × (place ≡ on_counter.Acquiring a (Parked turn P))) × (grant ≡ 0)
sleeps place grant (Closes (MayGiveUp how)) e = asleep place grant e
sleeps place grant (LooksAgain g (MayGiveUp how)) e = asleep place grant e
sleeps place grant (Closes NextCall) e = absurd cc
sleeps place grant (Closes (GaveUp how)) e = absurd cc
sleeps place grant (Closes (GivesBack skips)) e = absurd cc
sleeps place grant (LooksAgain g NextCall) e = absurd cc
sleeps place grant (LooksAgain g (GaveUp how)) e = absurd cc
sleeps place grant (LooksAgain g (GivesBack skips)) e = absurd cc
sleeps place grant (Releases g more) e = absurd cc

sleeps_on_list : (place : ListPlace) (grant : ℕ) (ending : Ending) → gives_up_on_list_at place grant ending ≡ true
    → ((t : Ticket) × (place ≡ on_list.Waiting t (wait_row.Parked list_row.P))) × (grant ≡ 0)
sleeps_on_list (on_list.Waiting t (wait_row.Parked list_row.P)) grant (MayGiveUp how) e = ((t, refl), eqb-true grant 0 e)
sleeps_on_list (on_list.Waiting t (wait_row.Parked row)) grant (MayGiveUp how) e = absurd cc
sleeps_on_list (on_list.Waiting t row) grant (MayGiveUp how) e = absurd cc
sleeps_on_list on_list.Rest grant (MayGiveUp how) e = absurd cc
sleeps_on_list on_list.Adding grant (MayGiveUp how) e = absurd cc
sleeps_on_list (on_list.NotifyingOne h row) grant (MayGiveUp how) e = absurd cc
sleeps_on_list (on_list.NotifyingAll h row) grant (MayGiveUp how) e = absurd cc
sleeps_on_list place grant NextCall e = absurd cc
sleeps_on_list place grant (GaveUp how) e = absurd cc
sleeps_on_list place grant (GivesBack skips) e = absurd cc

module _ (h : WholeMachine) (i : ℕ) where
  pub giving_up_finds : (after : After) → each Rest h.standing i ≡ AtCounter after → gives_up_in h i after ≡ true
      → (m : CoreLayout) → IsMachineFor m h → (journal : List Entry)
      → found_doing m (core_of h journal) i (each Rest h.standing i) ≡ Some (Number 0)
  giving_up_finds after at gives m shape journal =
      let s = (core_of h journal).semaphores in
      let is = sleeps (s.seats i).place (s.words.grants i) after gives in
      (λ j. found_doing m (core_of h journal) i (at j))
      ∙ (λ j. Some (found_on_counter (is.0.2 j) (found m.root s.words (event_at i (record (s.seats i) { place = is.0.2 j }) s.words.lists (is.0.2 j)).word)))
      ∙ ap (λ n. Some (Number n)) is.1

  pub giving_up_on_list_finds : (l : ℕ) (ending : Ending) → each Rest h.standing i ≡ AtList l ending → gives_up_on_list_in h l i ending ≡ true
      → (m : CoreLayout) → IsMachineFor m h → (journal : List Entry)
      → found_doing m (core_of h journal) i (each Rest h.standing i) ≡ Some (Number 0)
  giving_up_on_list_finds l ending at gives m shape journal =
      let s = list_of h.lists journal l in
      let is = sleeps_on_list (s.seats i).place (s.words.grants i) ending gives in
      (λ j. found_doing m (core_of h journal) i (at j))
      ∙ (λ j. Some (Number (list.found s.words (list_event_at i (s.seats i) s.words (is.0.1 j)).word)))
      ∙ ap (λ n. Some (Number n)) is.1
