-- A notification of all as a whole.
use Rattle.std.proofs.Common.{◌≡◌, ℕ, zero, suc, ◌+◌, true, false, List, [], ◌∷◌, ◌++◌, Option, inl, sym, refl, ap, ◌∙◌, subst, length}
use Rattle.std.proofs.Common.{◌≤◌, arith, append-nil, append_assoc}
use Rattle.waiters.specs.declared.wait.Wait.{Wait}
use Rattle.step_table.specs.declared.list_place.AllRow.TheVariants.{L1, L2, L3, L4, L7, L8}
use Rattle.step_table.specs.declared.list_place.ListPlace.{ListPlace}
use Rattle.step_table.specs.declared.list_place.ListPlace.TheVariants.{Rest, NotifyingAll}
use Rattle.step_table.specs.declared.list_place.Ticket.{Ticket}
use Rattle.step_table.specs.ListEvent.{if_any}
use Rattle.step_table.specs.ListWorld.{ListSeat, ListEntry, Granted}
use Rattle.step_table.specs.ListSteps.{with_ticket}
use Rattle.step_table.specs.Path.{GoesOn, own_entries}
use Rattle.step_table.proofs.Paths.{goes_on_more}
use Rattle.step_law_lists.specs.ListLawful.{told}
use Rattle.step_law_lists.specs.ListPath.{ListSight, ListStride}
use Rattle.step_law_lists.proofs.ListAccounts.{the_list_accounts}
use Rattle.step_law_lists.proofs.ListPaths.{the_list_paths}
use Rattle.notify_list.specs.Places.{at_place, is_free, waiting, locked, takes_lock, Begins, stands}
use Rattle.notify_list.specs.Rule.{watched}
use Rattle.notify_list.specs.Seats.{ListModel, Token, list_of, seat_of, IsSeat, IsNotifying, seen_of, setting_of, stands_of}
use Rattle.notify_list.specs.Walks.{Walked, MayLock, Locked}
use Rattle.notify_list.specs.Calls.{Calls, AllGranted, rows_of}
use Rattle.notify_list.specs.NotifyingAll.{looks_all, reach_rows, wake_rows, all_rows, all_entries, NotifiesAll, GrantsSome}
use Rattle.notify_list.specs.NotifyingAll.{LooksForAll, EndsAll, StoresGrants, GrantsSeats, grants_seat}
use Rattle.notify_list.specs.GrantingAll.{LookedForAll, IsAt, MayReach, ReachedAll, TakenAll, MayWake, with_waits, WokenSome}
use Rattle.notify_list.proofs.Leading.{equal_is, unequal_is}
use Rattle.notify_list.proofs.Walking.{walked_on, walked_so, walked_later, token_after, calls, comes_to}
use Rattle.notify_list.proofs.Resting.{empty_notifying, there_of, laws_there}

-- what a call told of its own where it told nothing
own_none : (s t : Token) (n : ℕ) (from a : ListSeat) (entries : List ListEntry) (rows : List (ListPlace × ℕ)) → Walked s from t a entries rows
    → entries ≡ [] → s.me.0.own.number ≡ n
    → own_entries (watched (setting_of s)) n (seen_of t) ≡ own_entries (watched (setting_of s)) n (seen_of s)
own_none s t n from a entries rows x none is =
    subst (λ i. own_entries (watched (setting_of s)) i (seen_of t) ≡ own_entries (watched (setting_of s)) i (seen_of s)) is
    ((the_list_paths.paths (setting_of s).first (setting_of s).seats).own s.me.0.own.number
    (record { stands = from; seen = seen_of s }) t.me.0.own.knows.sight x.strides x.path
    ∙ ap (λ l. own_entries (watched (setting_of s)) s.me.0.own.number (seen_of s) ++ own_entries (watched (setting_of s)) s.me.0.own.number l)
    (x.told_is ∙ none) ∙ append-nil _)

-- strides of one row, and of two
one_stride : (strides : List ListStride) (place : ListPlace) (n : ℕ) → rows_of strides ≡ (place, n) ∷ []
    → (p : ListStride) × (strides ≡ p ∷ []) × (p.stood.place ≡ place)
one_stride [] place n e = absurd cc
one_stride (p ∷ []) place n e = let same : (p.stood.place, p.read) ≡ (place, n) = cc in (p, refl, ap (λ (q : ListPlace × ℕ). q.0) same)
one_stride (p ∷ q ∷ strides) place n e = absurd cc

two_strides : (strides : List ListStride) (first place : ListPlace) (m n : ℕ) → rows_of strides ≡ (first, m) ∷ (place, n) ∷ []
    → (o p : ListStride) × (strides ≡ o ∷ p ∷ []) × (p.stood.place ≡ place)
two_strides [] first place m n e = absurd cc
two_strides (o ∷ []) first place m n e = absurd cc
two_strides (o ∷ p ∷ []) first place m n e =
    let same : (p.stood.place, p.read) ≡ (place, n) = cc in (o, p, refl, ap (λ (q : ListPlace × ℕ). q.0) same)
two_strides (o ∷ p ∷ q ∷ strides) first place m n e = absurd cc

-- it was quiet
module _ (s t : Token) (n : ℕ) (seat : IsSeat s n) (x : LookedForAll s true t) where
  pub quiet_seat : IsSeat t n
  quiet_seat = record {
    token_is = token_after s t n (at_place (NotifyingAll 0 L1) (stands_of s)) (at_place Rest (stands_of s)) [] (looks_all x.h x.waited x.notified)
        seat.token_is x.walked (x.slots ∙ seat.token_is.bare);
    free = ap (λ (y : ListSeat). is_free y.place) x.walked.stands_is;
    holds_none = ap (λ (y : ListSeat). y.ticket) x.walked.stands_is ∙ seat.holds_none;
  }

  pub quiet_all : NotifiesAll (seat_of s n) 0 (seat_of t n)
  quiet_all = record {
    comes = comes_to s t n (at_place (NotifyingAll 0 L1) (stands_of s)) (at_place Rest (stands_of s)) [] (looks_all x.h x.waited x.notified) x.walked;
    h = x.h;
    waited = x.waited;
    notified = x.notified;
    rows =
        inl (
          refl,
          equal_is x.waited x.notified (sym x.answer),
          calls s t n (at_place (NotifyingAll 0 L1) (stands_of s)) (at_place Rest (stands_of s)) [] (looks_all x.h x.waited x.notified) seat.token_is x.walked,
        );
  }

  pub quiet_none : GrantsSome (seat_of s n) 0 (seat_of t n)
  quiet_none = own_none s t n (at_place (NotifyingAll 0 L1) (stands_of s)) (at_place Rest (stands_of s)) []
      (looks_all x.h x.waited x.notified) x.walked refl seat.token_is.number_is

  pub quiet_seats : GrantsSeats [] (seat_of t n)
  quiet_seats = let two = two_strides x.walked.strides (NotifyingAll 0 L1) (NotifyingAll x.h (L2 x.waited)) x.waited x.notified x.walked.rows_are in record {
    before = s.me.0.own.gone ++ two.0 ∷ [];
    stride = two.1;
    none = ap grants_seat two.3;
    stored = x.walked.all ∙ ap (λ l. s.me.0.own.gone ++ l) two.2 ∙ sym (append_assoc s.me.0.own.gone (two.0 ∷ []) (two.1 ∷ []));
  }

  pub quiet_granted : AllGranted (seat_of s n) (seat_of t n)
  quiet_granted = let a = x.since in let b = x.quiet refl in omega arith

-- it goes to the lock
module _ (s t : Token) (n : ℕ) (seat : IsSeat s n) (x : LookedForAll s false t) where
  pub notifying : IsNotifying t n
  notifying = record {
    token_is = token_after s t n (at_place (NotifyingAll 0 L1) (stands_of s)) (at_place (NotifyingAll x.h L3) (stands_of s)) []
        (looks_all x.h x.waited x.notified) seat.token_is x.walked (x.slots ∙ seat.token_is.bare);
    h = x.h;
    at = ap (λ (y : ListSeat). y.place) x.walked.stands_is;
    holds_none = ap (λ (y : ListSeat). y.ticket) x.walked.stands_is ∙ seat.holds_none;
  }

  pub looks_for_all : LooksForAll (seat_of s n) (seat_of t n)
  looks_for_all = record {
    h = x.h;
    waited = x.waited;
    notified = x.notified;
    unequal = unequal_is x.waited x.notified (sym x.answer);
    comes = comes_to s t n (at_place (NotifyingAll 0 L1) (stands_of s)) (at_place (NotifyingAll x.h L3) (stands_of s)) []
        (looks_all x.h x.waited x.notified) x.walked;
    call = calls s t n (at_place (NotifyingAll 0 L1) (stands_of s)) (at_place (NotifyingAll x.h L3) (stands_of s)) []
        (looks_all x.h x.waited x.notified) seat.token_is x.walked;
    since = x.since;
  }

-- the rows from the lock on
module _ (l : ListModel) (t : Token) (n : ℕ) (N : IsNotifying t n) (own : list_of t ≡ l) where
  abbrev a : ListPlace → ListSeat
  a p = at_place p (stands_of t)

  here : waiting (stands_of t) ≡ stands_of t
  here = ap (λ (k : Option Ticket). with_ticket (stands_of t) k) N.holds_none

  stands3 : stands_of t ≡ at_place (NotifyingAll N.h L3) (stands_of t)
  stands3 = λ i. record (stands_of t) { place = N.at i }

  begun : waiting (stands_of t) ≡ a (NotifyingAll N.h L3)
  begun = here ∙ stands3

  pub may_lock : MayLock l t
  may_lock = record {
    list_is = own;
    begins = subst (Begins (stands_of t)) (sym here) stands;
    takes = ap (λ (y : ListSeat). takes_lock y.place) begun;
    bare = N.token_is.bare;
  }

  empty : (stands_of t).hand ≡ []
  empty = empty_notifying t.me.0.own N.token_is.lands (there_of t n N.token_is) N.token_is.few N.h N.at

  module _ (u : Token) (L : Locked t u) where
    w12 : Walked t (a (NotifyingAll N.h L3)) u (a (NotifyingAll N.h L4)) [] ((NotifyingAll N.h L3, 0) ∷ [])
    w12 = subst (λ (y : ListSeat). Walked t y u (at_place (locked y.place) y) [] ((y.place, 0) ∷ [])) begun L.walked

    is_at : (v : Token) (p : ListPlace) (b : ListSeat) (entries : List ListEntry) (rows : List (ListPlace × ℕ))
        → Walked t (a (NotifyingAll N.h L3)) v b entries rows → b.place ≡ p → IsAt l v p
    is_at v p b entries rows y e = record {
      list_is = y.list_is ∙ own;
      there = let q = ap (λ (z : ListModel). z.setting.seats) y.list_is in let i = y.number_is in let k = there_of t n N.token_is in omega arith;
      few = let q = ap (λ (z : ListModel). z.setting.seats) y.list_is in let k = N.token_is.few in omega arith;
      at = ap (λ (z : ListSeat). z.place) y.stands_is ∙ e;
      lands = y.lands;
    }

    pub may_reach : MayReach l u N.h
    may_reach = (
      is_at u (NotifyingAll N.h L4) (a (NotifyingAll N.h L4)) [] ((NotifyingAll N.h L3, 0) ∷ []) w12 refl,
      L.record_is,
    )

    pub empty_locked : (stands_of u).hand ≡ []
    empty_locked = ap (λ (y : ListSeat). y.hand) w12.stands_is ∙ empty

    module _ (k : ℕ) (v : Token) (R : ReachedAll u N.h k v) where
      abbrev entries : List ListEntry
      entries = all_entries t.me.0.own.number R.handed k

      w3 : Walked u (a (NotifyingAll N.h L4)) v (a (NotifyingAll N.h (L7 k))) entries (reach_rows N.h R.notified R.waited R.handed)
      w3 =
          subst (λ (y : ListSeat × ℕ). Walked u y.0 v (at_place (NotifyingAll N.h (L7 k)) y.0) (all_entries y.1 R.handed k)
          (reach_rows N.h R.notified R.waited R.handed)) (λ i. (w12.stands_is i, w12.number_is i)) R.walked

      w13 : Walked t (a (NotifyingAll N.h L3)) v (a (NotifyingAll N.h (L7 k))) entries
          ((NotifyingAll N.h L3, 0) ∷ reach_rows N.h R.notified R.waited R.handed)
      w13 = walked_on t u v (a (NotifyingAll N.h L3)) (a (NotifyingAll N.h L4)) (a (NotifyingAll N.h (L7 k))) [] entries
          ((NotifyingAll N.h L3, 0) ∷ []) (reach_rows N.h R.notified R.waited R.handed) w12 w3

      module _ (y : Token) (T : TakenAll v N.h k y) where
        abbrev hand : List Wait
        hand = (stands_of y).hand

        w4 : Walked v (a (NotifyingAll N.h (L7 k))) y (with_waits N.h hand (stands_of t)) [] ((NotifyingAll N.h (L7 k), 1) ∷ [])
        w4 = subst (λ (q : ListSeat). Walked v q y (with_waits N.h hand q) [] ((NotifyingAll N.h (L7 k), 1) ∷ [])) w13.stands_is T.walked

        w34 : Walked u (a (NotifyingAll N.h L4)) y (with_waits N.h hand (stands_of t)) (entries ++ [])
            (reach_rows N.h R.notified R.waited R.handed ++ (NotifyingAll N.h (L7 k), 1) ∷ [])
        w34 = walked_on u v y (a (NotifyingAll N.h L4)) (a (NotifyingAll N.h (L7 k))) (with_waits N.h hand (stands_of t)) entries []
            (reach_rows N.h R.notified R.waited R.handed) ((NotifyingAll N.h (L7 k), 1) ∷ []) w3 w4

        w14 : Walked t (a (NotifyingAll N.h L3)) y (with_waits N.h hand (stands_of t)) (entries ++ [])
            ((NotifyingAll N.h L3, 0)
            ∷ (reach_rows N.h R.notified R.waited R.handed ++ (NotifyingAll N.h (L7 k), 1) ∷ []))
        w14 = walked_on t u y (a (NotifyingAll N.h L3)) (a (NotifyingAll N.h L4)) (with_waits N.h hand (stands_of t)) [] (entries ++ [])
            ((NotifyingAll N.h L3, 0) ∷ [])
            (reach_rows N.h R.notified R.waited R.handed ++ (NotifyingAll N.h (L7 k), 1) ∷ []) w12 w34

        pub may_wake : MayWake l y N.h
        may_wake = is_at y (if_any hand (NotifyingAll N.h L8) Rest) (with_waits N.h hand (stands_of t)) (entries ++ [])
            ((NotifyingAll N.h L3, 0)
            ∷ (reach_rows N.h R.notified R.waited R.handed ++ (NotifyingAll N.h (L7 k), 1) ∷ [])) w14 refl

        module _ (z : Token) (W : WokenSome y N.h (stands_of y).hand [] z) where
          w5 : Walked y (with_waits N.h hand (stands_of t)) z (with_waits N.h [] (stands_of t)) [] (wake_rows N.h hand)
          w5 = subst (λ (q : ListSeat). Walked y q z (with_waits N.h [] q) [] (wake_rows N.h hand)) w14.stands_is W.walked

          rests : with_waits N.h [] (stands_of t) ≡ a Rest
          rests = λ i. record { place = Rest; ticket = (stands_of t).ticket; hand = sym empty i; late = (stands_of t).late }

          abbrev rows : List (ListPlace × ℕ)
          rows = all_rows N.h R.notified R.waited R.handed k hand

          w15 : Walked t (a (NotifyingAll N.h L3)) z (a Rest) entries rows
          w15 = walked_so t z (a (NotifyingAll N.h L3)) (with_waits N.h [] (stands_of t)) (a Rest) entries rows
              (subst (λ (es : List ListEntry). Walked t (a (NotifyingAll N.h L3)) z (with_waits N.h [] (stands_of t)) es rows)
              (append-nil (entries ++ []) ∙ append-nil entries)
              (walked_on t y z (a (NotifyingAll N.h L3)) (with_waits N.h hand (stands_of t)) (with_waits N.h [] (stands_of t)) (entries ++ []) []
              ((NotifyingAll N.h L3, 0)
              ∷ (reach_rows N.h R.notified R.waited R.handed ++ (NotifyingAll N.h (L7 k), 1) ∷ [])) (wake_rows N.h hand) w14 w5)) rests

          pub locked_seat : IsSeat z n
          locked_seat = record {
            token_is = token_after t z n (a (NotifyingAll N.h L3)) (a Rest) entries rows N.token_is w15 (W.slots ∙ T.bare);
            free = ap (λ (q : ListSeat). is_free q.place) w15.stands_is;
            holds_none = ap (λ (q : ListSeat). q.ticket) w15.stands_is ∙ N.holds_none;
          }

          seen_on : GoesOn (seen_of z) (seen_of v)
          seen_on = goes_on_more (seen_of v) (seen_of y) (seen_of z)
              (walked_later v y (a (NotifyingAll N.h (L7 k))) (with_waits N.h hand (stands_of t)) [] ((NotifyingAll N.h (L7 k), 1) ∷ []) w4)
              (walked_later y z (with_waits N.h hand (stands_of t)) (with_waits N.h [] (stands_of t)) [] (wake_rows N.h hand) w5)

          locked_some : GrantsSome (seat_of t n) k (seat_of z n)
          locked_some = by k refl
            where
              by : (m : ℕ) → k ≡ m → GrantsSome (seat_of t n) m (seat_of z n)
              by zero e =
                  own_none t z n (a (NotifyingAll N.h L3)) (a Rest) entries rows w15 (ap (all_entries t.me.0.own.number R.handed) e) N.token_is.number_is
              by (suc m) e = record {
                before = R.before;
                look = R.look;
                first =
                    goes_on_more (seen_of t) (seen_of u) R.look
                    (walked_later t u (a (NotifyingAll N.h L3)) (a (NotifyingAll N.h L4)) []
                    ((NotifyingAll N.h L3, 0) ∷ []) w12) R.first;
                later = R.later;
                seen = subst (λ (q : List ListEntry). GoesOn (seen_of z) q) (R.seen ∙ ap (λ j. R.before ++ all_entries u.me.0.own.number R.handed j) e
                    ∙ (λ i. R.before ++ Granted (R.all i)
                    ((w12.number_is ∙ N.token_is.number_is) i) ∷ [])) seen_on;
                all = sym R.all ∙ R.counted ∙ ap (λ j. (told R.before).passed + j + length (told R.before).gone) e;
              }

          locked_granted : N.h ≤ (told (seen_of z)).passed
          locked_granted =
              let at = R.passed in
              let token = token_after t z n (a (NotifyingAll N.h L3)) (a Rest) entries rows N.token_is w15 (W.slots ∙ T.bare) in
              let laws = laws_there z.me.0.own token.lands (there_of z n token) token.few in
              let journal = ap (λ (q : ListSight). q.seen) token.lands.sees in
              let stays = (the_list_accounts.stays (setting_of z).first (setting_of z).seats token.lands.world laws.invariant (seen_of v) seen_on.more
              (sym journal ∙ seen_on.is)).passed in
              let j = ap (λ (q : List ListEntry). (told q).passed) journal in
              let d = R.reaches in omega arith

          pub ends_all : EndsAll (seat_of t n) k (seat_of z n)
          ends_all = record {
            h = N.h;
            begun = N.at;
            comes = comes_to t z n (a (NotifyingAll N.h L3)) (a Rest) entries rows w15;
            was = R.notified;
            now = R.waited;
            handed = R.handed;
            hand = hand;
            call = subst (λ (q : ListSeat). Calls (seat_of t n) q (seat_of z n) (all_entries n R.handed k) rows) (sym stands3)
                (subst (λ i. Calls (seat_of t n) (a (NotifyingAll N.h L3)) (seat_of z n) (all_entries i R.handed k) rows) N.token_is.number_is
                (calls t z n (a (NotifyingAll N.h L3)) (a Rest) entries rows N.token_is w15));
            count = locked_some;
            granted = locked_granted;
          }

          pub granted_seats : (seats : List ℕ) → StoresGrants seats y.me.0.own.gone z.me.0.own.gone → GrantsSeats seats (seat_of z n)
          granted_seats seats stored = let one = one_stride T.walked.strides (NotifyingAll N.h (L7 k)) 1 T.walked.rows_are in record {
            before = v.me.0.own.gone;
            stride = one.0;
            none = ap grants_seat one.2;
            stored =
                subst (λ (g : List ListStride). StoresGrants seats g z.me.0.own.gone) (T.walked.all ∙ ap (λ l. v.me.0.own.gone ++ l) one.1) stored;
          }
