-- The first two looks of a notification.
use Rattle.std.proofs.Common.{◌≡◌, ℕ, ◌≤◌, ◌==◌, Bool, true, false, List, [], ◌∷◌, ◌++◌, sym, refl, ap, ◌∙◌, subst, arith}
use Rattle.std.proofs.Common.{append-nil}
use Rattle.step_table.specs.declared.list_place.ListPlace.{ListPlace}
use Rattle.step_table.specs.declared.list_place.ListPlace.TheVariants.{NotifyingOne}
use Rattle.step_table.specs.declared.list_place.OneRow.TheVariants.{O1, O2}
use Rattle.step_table.specs.ListWorld.{Numbers, ListSeat, ListEntry, ListWorld}
use Rattle.step_table.specs.Path.{GoesOn}
use Rattle.step_law_lists.specs.ListLawful.{told}
use Rattle.step_law_lists.specs.ListCalls.{Concludes, one_equal}
use Rattle.step_law_lists.specs.ListPlaces.{ReachedList}
use Rattle.running_rows.specs.Strides.{RanRow, here}
use Rattle.running_rows.proofs.Telling.{went_from}
use Rattle.notify_list.specs.declared.view.Setting.{Setting}
use Rattle.notify_list.specs.Places.{at_place, is_free}
use Rattle.notify_list.specs.Rows.{list_rows}
use Rattle.notify_list.specs.Plays.{Me, OneSeat, standing, at_one}
use Rattle.notify_list.specs.Seats.{Token, seat_of, IsSeat, seen_of, setting_of, stands_of}
use Rattle.notify_list.specs.Walks.{Walked}
use Rattle.notify_list.specs.Calls.{AllGranted}
use Rattle.notify_list.specs.Tickets.{looks, after_looks, HasLooked}
use Rattle.notify_list.proofs.Keeping.{laws_of}
use Rattle.notify_list.proofs.Leading.{Ran, Led, led, ran_from}
use Rattle.notify_list.proofs.Walking.{walked_row, walked_on, token_after, calls, comes_to}

-- a row that tells nothing has seen the journal as it was
pub seen_all : {a : ListSeat} {u w : OneSeat} {n : ℕ} (r : Ran a u n w) (d : Led a u n w r.stride) → r.stride.told ≡ []
    → w.knows.sight.seen ≡ d.world.journal
seen_all r d none = d.seen ∙ ap (λ l. r.stride.seen ++ l) none ∙ append-nil r.stride.seen ∙ d.seen_is

-- no ticket was taken back since
pub handed_since : (first seats : ℕ) (s : ListWorld) (before : List ListEntry) → ReachedList first seats s → GoesOn s.journal before
    → (told before).handed ≤ (told s.journal).handed
handed_since first seats s before laws later = laws.calls.grows before later.more later.is

-- O1
module _ (s t : Token) (waited : ℕ) (x : RanRow list_rows at_one s.me waited t.me) where
  pub row_first : Ran (at_place (NotifyingOne 0 O1) (stands_of s)) s.me.0.own waited t.me.0.own
  row_first = went_from list_rows at_one (standing (at_place (NotifyingOne 0 O1) (stands_of s))) s.me.0.own t.me.0.own waited refl x.0

  pub first : Led (at_place (NotifyingOne 0 O1) (stands_of s)) s.me.0.own waited t.me.0.own row_first.stride
  first = led (at_place (NotifyingOne 0 O1) (stands_of s)) s.me.0.own t.me.0.own waited row_first

  pub stands_first : stands_of t ≡ at_place (NotifyingOne first.world.words.numbers.handed (O2 waited)) (stands_of s)
  stands_first = first.stands

-- and O2
module _ (s t u : Token) (n waited notified : ℕ) (seat : IsSeat s n) (x : RanRow list_rows at_one s.me waited t.me)
    (q : RanRow list_rows here t.me notified u.me)
    (same : t.table_id ≡ s.table_id) (again : u.table_id ≡ t.table_id) where
  abbrev r : Ran (at_place (NotifyingOne 0 O1) (stands_of s)) s.me.0.own waited t.me.0.own
  r = row_first s t waited x

  abbrev a : ListSeat
  a = stands_of s

  abbrev one : Led (at_place (NotifyingOne 0 O1) (stands_of s)) s.me.0.own waited t.me.0.own (row_first s t waited x).stride
  one = first s t waited x

  abbrev h : ℕ
  h = (first s t waited x).world.words.numbers.handed

  abbrev place : ListPlace
  place = NotifyingOne (first s t waited x).world.words.numbers.handed (O2 waited)

  look : Ran (at_place place (stands_of s)) t.me.0.own notified u.me.0.own
  look = ran_from t u (at_place place (stands_of s)) notified (stands_first s t waited x) q

  second : Led (at_place place (stands_of s)) t.me.0.own notified u.me.0.own look.stride
  second = led (at_place place (stands_of s)) t.me.0.own u.me.0.own notified look

  pub walked : Walked s (at_place (NotifyingOne 0 O1) (stands_of s)) u
      (at_place (after_looks h (waited == notified)) (stands_of s)) [] (looks h waited notified)
  walked = walked_on s t u (at_place (NotifyingOne 0 O1) a) (at_place place a) (at_place (after_looks h (waited == notified)) a) [] []
      ((NotifyingOne 0 O1, waited) ∷ []) ((place, notified) ∷ [])
      (walked_row s t (at_place (NotifyingOne 0 O1) a) waited (at_place place a) [] r same one.stands one.told)
      (walked_row t u (at_place place a) notified (at_place (after_looks h (waited == notified)) a) [] look again second.stands second.told)

  -- all that the seat had seen handed out was so at the first look
  pub handed_first : (told (seen_of s)).handed ≤ h
  handed_first =
      let laws = laws_of (setting_of s) one.world one.met in
      let since = handed_since (setting_of s).first (setting_of s).seats one.world (seen_of s) laws
      (subst (λ l. GoesOn l (seen_of s)) one.seen_is one.later) in
      let e = ap (λ (x : Numbers). x.handed) laws.invariant.numbers in omega arith

  pub looked : HasLooked (seat_of s n) (waited == notified) (seat_of u n)
  looked = record {
    h = h;
    waited = waited;
    notified = notified;
    answer = refl;
    comes = comes_to s u n (at_place (NotifyingOne 0 O1) a) (at_place (after_looks h (waited == notified)) a) [] (looks h waited notified) walked;
    call = calls s u n (at_place (NotifyingOne 0 O1) a) (at_place (after_looks h (waited == notified)) a) [] (looks h waited notified) seat.token_is walked;
    since = handed_first;
  }

  free_after : (b : Bool) → is_free (after_looks h b) ≡ true
  free_after true = refl
  free_after false = refl

  pub looked_seat : IsSeat u n
  looked_seat = record {
    token_is = token_after s u n (at_place (NotifyingOne 0 O1) a) (at_place (after_looks h (waited == notified)) a) [] (looks h waited notified)
        seat.token_is walked (ap (λ (m : Me). m.1) q.1 ∙ ap (λ (m : Me). m.1) x.1 ∙ seat.token_is.bare);
    free = ap (λ (y : ListSeat). is_free y.place) walked.stands_is ∙ free_after (waited == notified);
    holds_none = ap (λ (y : ListSeat). y.ticket) walked.stands_is ∙ seat.holds_none;
  }

  few : (setting_of t).seats ≤ 65536
  few = let e = ap (λ (z : Setting). z.seats) r.same.1 in let f = seat.token_is.few in omega arith

  pub all_granted : waited ≡ notified → AllGranted (seat_of s n) (seat_of u n)
  all_granted e =
      let laws = laws_of (setting_of t) second.world second.met in
      let at : (second.world.seats t.me.0.own.number).place ≡ place = ap (λ (y : ListSeat). y.place) second.stood in
      let ends = laws.calls.notified t.me.0.own.number h look.also.there
      (subst (λ (p : ListPlace). Concludes second.world p h) (sym at) (one_equal h waited (e ∙ second.read))) in
      let seen = ap (λ (l : List ListEntry). (told l).passed) (seen_all look second second.told) in
      let since = handed_first in omega arith
