-- What the rows of a notify list ask for holds in each world that steps reach: no number is too great for its word, and each
-- wait has room.
use Rattle.std.proofs.Common.{◌≡◌, ℕ, ◌+◌, ◌<◌, ◌≤◌}
use Rattle.std.proofs.Common.{List, [], ◌∷◌, length, slice_get, IfSome, refl, ap, ◌∙◌, subst, arith}
use Rattle.std.proofs.lemmas.List.{length-map}
use Rattle.waiters.specs.declared.wait.Wait.{Wait}
use Rattle.step_table.specs.declared.list_place.AllRow.TheVariants.{L6, L7}
use Rattle.step_table.specs.declared.list_place.ListPlace.{ListPlace}
use Rattle.step_table.specs.declared.list_place.ListPlace.TheVariants.{Waiting, NotifyingAll}
use Rattle.step_table.specs.declared.list_place.WaitRow.TheVariants.{W2, W4, Parked}
use Rattle.step_table.specs.declared.list_place.ListParkedRow.TheVariants.{E3}
use Rattle.step_table.specs.Counting.{total}
use Rattle.step_table.specs.Wrapping.{word_of}
use Rattle.step_table.specs.ListWorld.{ListWorld}
use Rattle.step_law_lists.specs.ListLawful.{times}
use Rattle.step_law_lists.specs.ListInvariant.{HandFits}
use Rattle.step_law_lists.specs.ListWellFormed.{asleep_on_list, IsWellFormedList, StillReads}
use Rattle.step_rows.specs.ListStored.{AsksAt, HasListRow, HasGoneRoom, most_gone}
use Rattle.step_core.specs.State.{may_go}
use Rattle.step_table.proofs.Sums.{total_has}
use Rattle.step_law_lists.proofs.ListPlacing.{one_here, waiter_of}
use Rattle.step_law_lists.proofs.ListSleeping.{room}

pub nothing_held : (l : List Wait) → length l ≡ 0 → l ≡ []
nothing_held [] empty = refl
nothing_held (w ∷ l) empty = absurd (omega arith)

pub first_held : (seats : ℕ) (hand : List Wait) → ((w : Wait) → 0 < times w hand → w.id.seat < seats)
    → IfSome (slice_get hand 0) (λ w. w.id.seat < seats)
first_held seats [] each = tt
first_held seats (w ∷ hand) each = each w (let here = one_here w in omega arith)

module _ (first seats i : ℕ) (s : ListWorld) (in_range : i < seats) (inv : IsWellFormedList first seats s) where
  -- no more are passed than were handed out
  pub no_more_passed : s.words.numbers.passed ≤ s.words.numbers.handed
  no_more_passed = inv.words.2

  -- the first wait in the seat's hand is of a seat that is there
  pub waiter_there : IfSome (slice_get (s.seats i).hand 0) (λ w. w.id.seat < seats)
  waiter_there =
      first_held seats (s.seats i).hand
      (λ w some. let held = total_has seats (λ k. times w (s.seats k).hand) i in_range in (waiter_of seats s w inv.placed (omega arith)).2)

  -- a notification of all has nothing in hand before it takes out the waits
  pub hand_empty : (h n : ℕ) → (s.seats i).place ≡ NotifyingAll h (L7 n) → (s.seats i).hand ≡ []
  hand_empty h n is =
      nothing_held (s.seats i).hand (subst (λ p. HandFits p (length (s.seats i).hand)) is (inv.seats_known i in_range).fits)

  -- few tickets are gone, and one more fits where the seat's may go
  module _ (handed : s.words.numbers.handed ≤ 512)
      (few : length s.words.numbers.gone + total seats (λ k. may_go (s.seats k).place) ≤ most_gone seats) (limit : seats ≤ 16) where
    same_long : length s.words.gone ≡ length s.words.numbers.gone
    same_long = ap (λ l. length l) inv.words.3 ∙ length-map s.words.numbers.gone (word_of first)

    room_at : 0 < may_go (s.seats i).place → HasGoneRoom seats s.words
    room_at may =
        let here = total_has seats (λ k. may_go (s.seats k).place) i in_range in
        let long = same_long in record { words = omega arith; numbers = omega arith }

    asks_at : (place : ListPlace) → (s.seats i).place ≡ place → AsksAt seats s.words s.seats (s.seats i) place
    asks_at (Waiting t W2) is = let le = no_more_passed in omega arith
    asks_at (Waiting t W4) is = room seats s inv.placed i in_range (ap (λ p. asleep_on_list p (s.words.grants i)) is)
    asks_at (Waiting t (Parked (E3 v))) is = room_at (let one : may_go (s.seats i).place ≡ 1 = ap may_go is in omega arith)
    asks_at (Waiting t (Parked row)) is = tt
    asks_at (NotifyingAll h (L6 r)) is =
        let reads = subst (StillReads first s.words) is (inv.seats_known i in_range).reads in
        let most = reads.2 in omega arith
    asks_at (NotifyingAll h (L7 n)) is = hand_empty h n is
    asks_at _ is = tt

    -- all that the seat's row asks for
    pub has_list_row : HasListRow seats s.words s.seats i
    has_list_row =
        let le = no_more_passed in
        record { seat = in_range; handed = omega arith; passed = omega arith; waiter = waiter_there; asks = asks_at (s.seats i).place refl }
