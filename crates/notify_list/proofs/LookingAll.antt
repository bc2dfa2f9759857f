-- The first two looks of a notification of all.
use Rattle.std.proofs.Common.{◌≡◌, ℕ, ◌≤◌, ◌==◌, if◌then◌else◌, List, [], ◌∷◌, sym, refl, ap, ◌∙◌, subst, arith}
use Rattle.step_table.specs.declared.list_place.AllRow.TheVariants.{L1, L2, L3}
use Rattle.step_table.specs.declared.list_place.ListPlace.{ListPlace}
use Rattle.step_table.specs.declared.list_place.ListPlace.TheVariants.{Rest, NotifyingAll}
use Rattle.step_table.specs.ListWorld.{Numbers, ListSeat, ListEntry}
use Rattle.step_table.specs.Path.{GoesOn}
use Rattle.step_law_lists.specs.ListLawful.{told}
use Rattle.step_law_lists.specs.ListCalls.{Concludes, all_equal}
use Rattle.running_rows.specs.Strides.{RanRow, here}
use Rattle.running_rows.proofs.Telling.{went_from}
use Rattle.notify_list.specs.declared.view.Setting.{Setting}
use Rattle.notify_list.specs.Places.{at_place}
use Rattle.notify_list.specs.Rows.{list_rows}
use Rattle.notify_list.specs.Plays.{Me, standing, at_all}
use Rattle.notify_list.specs.Seats.{Token, IsSeat, seen_of, setting_of, stands_of}
use Rattle.notify_list.specs.Walks.{Walked}
use Rattle.notify_list.specs.NotifyingAll.{looks_all}
use Rattle.notify_list.specs.GrantingAll.{LookedForAll}
use Rattle.notify_list.proofs.Keeping.{laws_of}
use Rattle.notify_list.proofs.Leading.{Ran, Led, led, ran_from, equal_is}
use Rattle.notify_list.proofs.Walking.{walked_row, walked_on}
use Rattle.notify_list.proofs.Looking.{seen_all, handed_since}

-- L1
module _ (s t : Token) (waited : ℕ) (x : RanRow list_rows at_all s.me waited t.me) where
  pub row_first : Ran (at_place (NotifyingAll 0 L1) (stands_of s)) s.me.0.own waited t.me.0.own
  row_first = went_from list_rows at_all (standing (at_place (NotifyingAll 0 L1) (stands_of s))) s.me.0.own t.me.0.own waited refl x.0

  pub first : Led (at_place (NotifyingAll 0 L1) (stands_of s)) s.me.0.own waited t.me.0.own row_first.stride
  first = led (at_place (NotifyingAll 0 L1) (stands_of s)) s.me.0.own t.me.0.own waited row_first

  pub stands_first : stands_of t ≡ at_place (NotifyingAll first.world.words.numbers.handed (L2 waited)) (stands_of s)
  stands_first = first.stands

-- and L2
module _ (s t u : Token) (n waited notified : ℕ) (seat : IsSeat s n) (x : RanRow list_rows at_all s.me waited t.me)
    (q : RanRow list_rows here t.me notified u.me)
    (same : t.table_id ≡ s.table_id) (again : u.table_id ≡ t.table_id) where
  abbrev r : Ran (at_place (NotifyingAll 0 L1) (stands_of s)) s.me.0.own waited t.me.0.own
  r = row_first s t waited x

  abbrev a : ListSeat
  a = stands_of s

  abbrev one : Led (at_place (NotifyingAll 0 L1) (stands_of s)) s.me.0.own waited t.me.0.own (row_first s t waited x).stride
  one = first s t waited x

  abbrev h : ℕ
  h = (first s t waited x).world.words.numbers.handed

  abbrev place : ListPlace
  place = NotifyingAll (first s t waited x).world.words.numbers.handed (L2 waited)

  look : Ran (at_place place (stands_of s)) t.me.0.own notified u.me.0.own
  look = ran_from t u (at_place place (stands_of s)) notified (stands_first s t waited x) q

  second : Led (at_place place (stands_of s)) t.me.0.own notified u.me.0.own look.stride
  second = led (at_place place (stands_of s)) t.me.0.own u.me.0.own notified look

  pub walked : Walked s (at_place (NotifyingAll 0 L1) (stands_of s)) u
      (at_place (if waited == notified then Rest else NotifyingAll h L3) (stands_of s)) [] (looks_all h waited notified)
  walked = walked_on s t u (at_place (NotifyingAll 0 L1) a) (at_place place a) (at_place (if waited == notified then Rest else NotifyingAll h L3) a) [] []
      ((NotifyingAll 0 L1, waited) ∷ []) ((place, notified) ∷ [])
      (walked_row s t (at_place (NotifyingAll 0 L1) a) waited (at_place place a) [] r same one.stands one.told)
      (walked_row t u (at_place place a) notified (at_place (if waited == notified then Rest else NotifyingAll h L3) a) [] look again second.stands second.told)

  -- all that the seat had seen handed out was so at the first look
  pub handed_first : (told (seen_of s)).handed ≤ h
  handed_first =
      let laws = laws_of (setting_of s) one.world one.met in
      let since = handed_since (setting_of s).first (setting_of s).seats one.world (seen_of s) laws
      (subst (λ l. GoesOn l (seen_of s)) one.seen_is one.later) in
      let e = ap (λ (x : Numbers). x.handed) laws.invariant.numbers in omega arith

  few : (setting_of t).seats ≤ 65536
  few = let e = ap (λ (z : Setting). z.seats) r.same.1 in let f = seat.token_is.few in omega arith

  pub quiet : waited ≡ notified → h ≤ (told (seen_of u)).passed
  quiet e =
      let laws = laws_of (setting_of t) second.world second.met in
      let at : (second.world.seats t.me.0.own.number).place ≡ place = ap (λ (y : ListSeat). y.place) second.stood in
      let ends = laws.calls.notified t.me.0.own.number h look.also.there
      (subst (λ (p : ListPlace). Concludes second.world p h) (sym at) (all_equal h waited (e ∙ second.read))) in
      subst (λ (l : List ListEntry). h ≤ (told l).passed) (sym (seen_all look second second.told)) ends

  pub looked_for_all : LookedForAll s (waited == notified) u
  looked_for_all = record {
    h = h;
    waited = waited;
    notified = notified;
    answer = refl;
    walked = walked;
    slots = ap (λ (m : Me). m.1) q.1 ∙ ap (λ (m : Me). m.1) x.1;
    since = handed_first;
    quiet = λ e. quiet (equal_is waited notified e);
  }
