-- A notification of all as a whole: its two looks, and the rows from the lock on.
use Rattle.std.proofs.Common.{◌≡◌, ℕ, zero, suc, [], ◌∷◌, ◌++◌, Result, Ok, Err, IfOk, MatchResult, inr, sym, ap}
use Rattle.std.proofs.Common.{◌∙◌, subst, arith, append-nil}
use Rattle.step_table.specs.declared.list_place.AllRow.TheVariants.{L1, L3}
use Rattle.step_table.specs.declared.list_place.ListPlace.TheVariants.{Rest, NotifyingAll}
use Rattle.step_table.specs.ListWorld.{ListSeat, Granted}
use Rattle.step_table.specs.Path.{GoesOn, own_entries}
use Rattle.step_table.proofs.Paths.{goes_on_more}
use Rattle.step_law_lists.specs.ListLawful.{told, Follows}
use Rattle.step_law_lists.proofs.ListPaths.{the_list_paths}
use Rattle.notify_list.specs.declared.notified.NotifiedAll.{NotifiedAll}
use Rattle.notify_list.specs.Places.{at_place}
use Rattle.notify_list.specs.Rule.{watched}
use Rattle.notify_list.specs.Seats.{SeatModel}
use Rattle.notify_list.specs.Calls.{Calls, ComesTo, AllGranted}
use Rattle.notify_list.specs.NotifyingAll.{looks_all, all_rows, all_entries, NotifiesAll, GrantsSome, LooksForAll, FindsHeldForAll, EndsAll}
use Rattle.notify_list.specs.Callers.{NotifiesAllTickets, LooksToNotifyAll, EndsNotifyingAll, StandsOn, LeavesAll}
use Rattle.notify_list.specs.Meeting.{FindsHeld}
use Rattle.notify_list.proofs.Walking.{calls_then}
use Rattle.notify_list.proofs.Signalling.{call_later}
use Rattle.notify_list.proofs.Answering.{seat_after}
use Rattle.notify_list.proofs.CallersNotifying.{notifies_all}

module _ (s u : SeatModel) (x : LooksForAll s u) where
  abbrev a : ListSeat
  a = at_place (NotifyingAll 0 L1) s.sight.stands

  number_is : u.number ≡ s.number
  number_is = ap (λ (y : SeatModel). y.number) x.comes.same

  pub looks_to_notify : Follows u.sight.seen → LooksToNotifyAll s u
  looks_to_notify lawful = (
    seat_after s u a (at_place (NotifyingAll x.h L3) s.sight.stands) [] (looks_all x.h x.waited x.notified) lawful x.comes x.call,
    (x.h, ap (λ (y : ListSeat). y.place) x.comes.stands_is, x.since),
  )

  module _ (t : SeatModel) (n : ℕ) (y : EndsAll u n t) where
    h_is : y.h ≡ x.h
    h_is = let both : NotifyingAll y.h L3 ≡ NotifyingAll x.h L3 = sym y.begun ∙ ap (λ (q : ListSeat). q.place) x.comes.stands_is in cc

    comes_whole : ComesTo s (at_place Rest s.sight.stands) t
    comes_whole = record {
      same = y.comes.same ∙ (λ i. record (x.comes.same i) { sight = t.sight; strides = t.strides });
      stands_is = y.comes.stands_is ∙ ap (λ (q : ListSeat). at_place Rest q) x.comes.stands_is;
    }

    pub whole_all : NotifiesAll s n t
    whole_all = record {
      comes = comes_whole;
      h = x.h;
      waited = x.waited;
      notified = x.notified;
      rows = inr (
        x.unequal,
        (
          y.was,
          y.now,
          y.handed,
          y.hand,
          subst (λ (q : ℕ × ℕ). Calls s a t (all_entries q.0 y.handed n)
              (looks_all x.h x.waited x.notified ++ all_rows q.1 y.was y.now y.handed n y.hand)) (λ i. (number_is i, h_is i))
              (calls_then s u t a [] (all_entries u.number y.handed n) (looks_all x.h x.waited x.notified)
              (all_rows y.h y.was y.now y.handed n y.hand) x.comes.same x.call y.call),
        ),
      );
    }

    pub whole_some : GrantsSome s n t
    whole_some = by n y.count
      where
        by : (m : ℕ) → GrantsSome u m t → GrantsSome s m t
        by zero none =
            subst (λ (q : SeatModel). own_entries (watched q.list.setting) q.number t.sight.seen
            ≡ own_entries (watched q.list.setting) q.number u.sight.seen) x.comes.same none
            ∙ (the_list_paths.paths s.list.setting.first s.list.setting.seats).own s.number (record { stands = a; seen = s.sight.seen }) u.sight
            x.call.strides x.call.path
            ∙ ap (λ l. own_entries (watched s.list.setting) s.number s.sight.seen ++ own_entries (watched s.list.setting) s.number l) x.call.told_is
            ∙ append-nil (own_entries (watched s.list.setting) s.number s.sight.seen)
        by (suc m) g = record {
          before = g.before;
          look = g.look;
          first = goes_on_more s.sight.seen u.sight.seen g.look (call_later s u a [] (looks_all x.h x.waited x.notified) x.call) g.first;
          later = g.later;
          seen = subst (λ i. GoesOn t.sight.seen (g.before ++ Granted (told g.look).handed i ∷ [])) number_is g.seen;
          all = g.all;
        }

    pub whole_granted : AllGranted s t
    whole_granted = let b = x.since in let g = y.granted in let e = h_is in omega arith

  -- the same of a call that tried for the lock
  pub tried_all : (r : Result (SeatModel × NotifiedAll) SeatModel) → MatchResult r (λ p. EndsAll u p.1.tickets p.0) (λ q. FindsHeld u q)
      → MatchResult r (λ p. NotifiesAll s p.1.tickets p.0) (λ q. FindsHeldForAll s q)
  tried_all (Ok p) y = whole_all p.0 p.1.tickets y
  tried_all (Err q) y = (u, x, y)

  pub tried_some : (r : Result (SeatModel × NotifiedAll) SeatModel) → MatchResult r (λ p. EndsAll u p.1.tickets p.0) (λ q. FindsHeld u q)
      → IfOk r (λ p. GrantsSome s p.1.tickets p.0)
  tried_some (Ok p) y = whole_some p.0 p.1.tickets y
  tried_some (Err q) y = tt

  pub tried_granted : (r : Result (SeatModel × NotifiedAll) SeatModel) → MatchResult r (λ p. EndsAll u p.1.tickets p.0) (λ q. FindsHeld u q)
      → IfOk r (λ p. AllGranted s p.0)
  tried_granted (Ok p) y = whole_granted p.0 p.1.tickets y
  tried_granted (Err q) y = tt

  lawful_then : (t : SeatModel) (n : ℕ) → EndsNotifyingAll u n t → Follows t.sight.seen
  lawful_then t zero e = e.1.lawful
  lawful_then t (suc n) e = e.1.5.lawful

  pub tried_caller : Follows u.sight.seen → (r : Result (SeatModel × NotifiedAll) SeatModel)
      → MatchResult r (λ p. EndsAll u p.1.tickets p.0) (λ q. FindsHeld u q)
      → MatchResult r (λ p. EndsNotifyingAll u p.1.tickets p.0) (λ q. StandsOn u q)
      → MatchResult r (λ p. NotifiesAllTickets s p.1.tickets p.0) (λ q. LeavesAll s q)
  tried_caller lawful (Ok p) y e = notifies_all s p.0 (lawful_then p.0 p.1.tickets e) p.1.tickets (whole_all p.0 p.1.tickets y)
      (whole_some p.0 p.1.tickets y) (whole_granted p.0 p.1.tickets y)
  tried_caller lawful (Err q) y e = (u, looks_to_notify lawful, e)
