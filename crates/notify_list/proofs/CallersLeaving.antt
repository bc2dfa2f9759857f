-- What giving up a sleep is to its caller, from what it is in rows.
use Rattle.std.proofs.Common.{◌≡◌, List, [], ◌∷◌, ◌++◌, Result, Ok, Err, MatchResult, sym, ap, ◌∙◌, subst, append-nil}
use Rattle.std.proofs.lemmas.List.Elements.{filter-append}
use Rattle.step_table.specs.declared.list_place.ListPlace.TheVariants.{Rest}
use Rattle.step_table.specs.ListWorld.{ListSeat, ListEntry, Forgone}
use Rattle.step_law_lists.specs.ListLawful.{Follows}
use Rattle.step_law_lists.specs.ListPath.{is_own}
use Rattle.notify_list.specs.declared.waited.GaveUp.{GaveUp}
use Rattle.notify_list.specs.declared.waited.GaveUp.TheVariants.{Left, Coming}
use Rattle.notify_list.specs.declared.waited.Polled.TheVariants as polled
use Rattle.notify_list.specs.Places.{at_place, giving_up}
use Rattle.notify_list.specs.Seats.{SeatModel}
use Rattle.notify_list.specs.Callers.{IsSeatAfter, StandsOn, GivesUp}
use Rattle.notify_list.specs.Meeting.{FindsHeld}
use Rattle.notify_list.specs.Leaving.{Leaves, LeavesAtLock, StillParked, left_rows, coming_rows}
use Rattle.notify_list.specs.LeavingRows.{SeesLawful}
use Rattle.notify_list.specs.Waiting.{IsPolled}
use Rattle.notify_list.proofs.Answering.{seat_after}
use Rattle.notify_list.proofs.CallersEnding.{stands_on}
use Rattle.notify_list.proofs.Parting.{own_of}
use Rattle.notify_list.proofs.Walking.{tells_later}

-- a seat that told nothing, and then these entries
pub after_then : (s u t : SeatModel) (entries : List ListEntry) → IsSeatAfter s [] u → IsSeatAfter u entries t → IsSeatAfter s entries t
after_then s u t entries x y = record {
  list = y.list ∙ x.list;
  number = y.number ∙ x.number;
  tells = tells_later s.sight.seen u.sight.seen entries t.sight.seen x.tells y.tells;
  own =
      subst (λ i. own_of i t.sight.seen ≡ own_of i (u.sight.seen ++ entries)) x.number y.own
      ∙ filter-append (is_own s.number) u.sight.seen entries
      ∙ ap (λ l. l ++ own_of s.number entries) (x.own ∙ ap (own_of s.number) (append-nil s.sight.seen))
      ∙ sym (filter-append (is_own s.number) s.sight.seen entries);
  lawful = y.lawful;
  reach = y.reach;
}

-- the seat looked at its grant word, and stands as it stood
module _ (s u : SeatModel) (stands : StandsOn s u) where
  pub gives_up : (gave_up : GaveUp) → LeavesAtLock u gave_up → SeesLawful gave_up → GivesUp s gave_up
  gives_up (Left t) x lawful = (
    x.0,
    ap (λ (a : ListSeat). a.place) (sym stands.1) ∙ x.2,
    subst (λ i. IsSeatAfter s (Forgone x.0.number i ∷ []) t) stands.0.number
        (after_then s u t (Forgone x.0.number u.number ∷ []) stands.0
        (seat_after u t (giving_up u.sight.stands) (at_place Rest u.sight.stands) (Forgone x.0.number u.number ∷ []) (left_rows x.0 x.1) lawful x.4 x.3)),
    ap (λ (a : ListSeat). a.ticket) x.4.stands_is ∙ ap (λ (a : ListSeat). a.ticket) stands.1,
    x.5,
  )
  gives_up (Coming t) x lawful = (
    (
      after_then s u t [] stands.0 (seat_after u t (giving_up u.sight.stands) u.sight.stands [] (coming_rows x.0) lawful x.3 x.2),
      x.3.stands_is ∙ stands.1,
    ),
    (x.0, ap (λ (a : ListSeat). a.place) (sym stands.1) ∙ x.1, x.4),
  )
  gives_up _ x lawful = absurd x

  pub stands_still : (t : SeatModel) → FindsHeld u t → Follows t.sight.seen → StandsOn s t
  stands_still t x lawful = let held = stands_on u t lawful x in (after_then s u t [] stands.0 held.0, held.1 ∙ stands.1)

  pub tries_to_give_up : (r : Result GaveUp SeatModel) → MatchResult r (λ gave_up. LeavesAtLock u gave_up) (λ t. FindsHeld u t)
      → MatchResult r (λ gave_up. SeesLawful gave_up) (λ t. Follows t.sight.seen)
      → MatchResult r (λ gave_up. GivesUp s gave_up) (λ t. StandsOn s t)
  tries_to_give_up (Ok gave_up) x lawful = gives_up gave_up x lawful
  tries_to_give_up (Err t) x lawful = stands_still t x lawful

  module _ (still : IsPolled s (polled.Still u)) where
    pub leaves_then : (gave_up : GaveUp) → LeavesAtLock u gave_up → Leaves s gave_up
    leaves_then (Left t) x = (u, still, x)
    leaves_then (Coming t) x = (u, still, x)
    leaves_then _ x = absurd x

    pub still_parked : (t : SeatModel) → FindsHeld u t → StillParked s t
    still_parked t x = (u, still, x)

    pub tries_to_leave : (r : Result GaveUp SeatModel) → MatchResult r (λ gave_up. LeavesAtLock u gave_up) (λ t. FindsHeld u t)
        → MatchResult r (λ gave_up. Leaves s gave_up) (λ t. StillParked s t)
    tries_to_leave (Ok gave_up) x = leaves_then gave_up x
    tries_to_leave (Err t) x = still_parked t x
