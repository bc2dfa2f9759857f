-- A row does the same whether it is shown the lists and the hand, or only what it looks at of them.
use Rattle.std.proofs.Common.{◌≡◌, ℕ, List, Option, refl, ap, ◌∙◌, subst}
use Rattle.waiters.specs.declared.wait.WaitId.{WaitId}
use Rattle.step_rows.specs.declared.caller.Caller.{Caller}
use Rattle.step_table.specs.declared.place.AcquireRow.TheVariants.{A1, Parked}
use Rattle.step_table.specs.declared.place.ParkedRow.TheVariants.{P}
use Rattle.step_table.specs.declared.place.Place.{Place}
use Rattle.step_table.specs.declared.place.Place.TheVariants.{Rest, Acquiring, Releasing, ReleasingMany}
use Rattle.step_table.specs.declared.place.ReleaseRow.TheVariants.{R1}
use Rattle.step_table.specs.declared.place.ManyRow.TheVariants.{M1}
use Rattle.step_outcomes.specs.declared.outcome.Outcome.{Outcome}
use Rattle.step_table.specs.declared.word.Word.{Word}
use Rattle.step_table.specs.World.{Words, found}
use Rattle.step_table.specs.Event.{Event}
use Rattle.step_table.specs.Table.{event_at}
use Rattle.step_outcomes.specs.Outcomes.{Does}
use Rattle.step_rows.specs.Stored.{hand_seen, lists_seen, seat_of}

module _ (s : ℕ) (caller : Caller) (hand : List WaitId) (lists : ℕ → List WaitId) where
  abbrev sees : Place → Event
  sees p = event_at s (seat_of caller (hand_seen p hand)) (lists_seen p lists) p

  abbrev is_shown : Place → Event
  is_shown p = event_at s (seat_of caller hand) lists p

  same_event : (p : Place) → sees p ≡ is_shown p
  same_event Rest = refl
  same_event (Acquiring a A1) = refl
  same_event (Acquiring a (Parked turn P)) = refl
  same_event (Acquiring a (Parked turn row)) = refl
  same_event (Acquiring a row) = refl
  same_event (Releasing r R1) = refl
  same_event (Releasing r row) = refl
  same_event (ReleasingMany r M1) = refl
  same_event (ReleasingMany r row) = refl

  module _ (p : Place) where
    pub same_word : (word : Word) → word ≡ (sees p).word → word ≡ (is_shown p).word
    same_word word is = is ∙ (λ j. (same_event p j).word)

    module _ (root : ℕ → ℕ) (g : Words) (word : Word) (is : word ≡ (sees p).word) (n : ℕ) (reads : n ≡ found root g word) where
      pub same_found : n ≡ found root g (is_shown p).word
      same_found = reads ∙ ap (found root g) (same_word word is)

      pub same_outcome : (outcome : Option Outcome) → Does (sees p) n outcome
          → Does (is_shown p) (found root g (is_shown p).word) outcome
      same_outcome outcome does =
          subst (λ n. Does (is_shown p) n outcome) same_found (subst (λ e. Does e n outcome) (same_event p) does)
