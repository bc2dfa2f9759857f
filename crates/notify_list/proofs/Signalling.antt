-- A notification of one as a whole: its two looks, and what comes of them.
use Rattle.std.proofs.Common.{◌≡◌, ℕ, ◌+◌, true, false, List, [], ◌∷◌, ◌++◌, Option, Some, None, IfSome, IfNone, IfOk, inl, inr, ⊎_elim, sym}
use Rattle.std.proofs.Common.{refl, ap, ◌∙◌, subst, Result, Ok, Err, MatchResult}
use Rattle.std.proofs.Common.{arith}
use Rattle.step_table.specs.declared.list_place.ListPlace.{ListPlace}
use Rattle.step_table.specs.declared.list_place.ListPlace.TheVariants.{Rest, NotifyingOne}
use Rattle.step_table.specs.declared.list_place.OneRow.TheVariants.{O1, O3}
use Rattle.step_table.specs.ListWorld.{ListSeat, ListEntry, Granted}
use Rattle.step_table.specs.Path.{GoesOn}
use Rattle.step_table.proofs.Paths.{goes_on_more}
use Rattle.step_law_lists.specs.ListLawful.{told}
use Rattle.step_law_lists.proofs.ListPaths.{the_list_paths}
use Rattle.notify_list.specs.Places.{at_place}
use Rattle.notify_list.specs.declared.notified.Notified.{Notified}
use Rattle.notify_list.specs.Granting.{GrantsLast, HasGranted}
use Rattle.notify_list.specs.Seats.{ListModel, SeatModel, Token, list_of, seat_of}
use Rattle.notify_list.specs.Calls.{Calls, ComesTo, AllGranted}
use Rattle.notify_list.specs.Tickets.{HasLooked, FindsHeldAfterLooks, looks}
use Rattle.notify_list.specs.Meeting.{FindsHeld}
use Rattle.notify_list.specs.Notifying.{finds_none, finds_one, grants_it, OneFromLock, NotifiesOne, GrantsLeast, EndsOne, ticket_of, GrantsItsWait}
use Rattle.notify_list.proofs.Leading.{equal_is, unequal_is}
use Rattle.notify_list.proofs.Walking.{calls_then}

-- what was seen at a call's start is seen still
pub call_later : (s t : SeatModel) (begun : ListSeat) (entries : List ListEntry) (rows : List (ListPlace × ℕ))
    → Calls s begun t entries rows → GoesOn t.sight.seen s.sight.seen
call_later s t begun entries rows x =
    (the_list_paths.paths s.list.setting.first s.list.setting.seats).grows s.number (record { stands = begun; seen = s.sight.seen }) t.sight x.strides x.path

module _ (s u : SeatModel) where
  -- it was quiet
  pub quiet_one : HasLooked s true u → NotifiesOne s None u
  quiet_one x = record {
    comes = x.comes;
    h = x.h;
    waited = x.waited;
    notified = x.notified;
    rows = inl (refl, equal_is x.waited x.notified (sym x.answer), x.call);
  }

  module _ (t : SeatModel) (x : HasLooked s false u) where
    abbrev a : ListSeat
    a = at_place (NotifyingOne 0 O1) s.sight.stands

    pub place_then : u.sight.stands.place ≡ NotifyingOne x.h O3
    place_then = ap (λ (y : ListSeat). y.place) x.comes.stands_is

    -- the call's rows after the looks'
    whole : (entries : List ListEntry) (rows : List (ListPlace × ℕ)) → Calls u u.sight.stands t entries rows
        → Calls s a t entries (looks x.h x.waited x.notified ++ rows)
    whole entries rows y = calls_then s u t a [] entries (looks x.h x.waited x.notified) rows x.comes.same x.call y

    number_is : u.number ≡ s.number
    number_is = ap (λ (y : SeatModel). y.number) x.comes.same

    comes_whole : ComesTo u (at_place Rest u.sight.stands) t → ComesTo s (at_place Rest s.sight.stands) t
    comes_whole y = record {
      same = y.same ∙ (λ i. record (x.comes.same i) { sight = t.sight; strides = t.strides });
      stands_is = y.stands_is ∙ ap (λ (q : ListSeat). at_place Rest q) x.comes.stands_is;
    }

    from_lock : (answer : Option ℕ) → OneFromLock u u.sight.stands x.h [] answer t → OneFromLock s a x.h (looks x.h x.waited x.notified) answer t
    from_lock None y = (y.0, whole [] (finds_none x.h y.0) y.1)
    from_lock (Some ticket) y = (
      y.0,
      y.1,
      y.2,
      ⊎_elim
          (λ c. inl (subst (λ i. Calls s a t (Granted y.1 i ∷ []) (looks x.h x.waited x.notified ++ finds_one x.h ticket y.0)) number_is
          (whole (Granted y.1 u.number ∷ []) (finds_one x.h ticket y.0) c)))
          (λ c. inr (subst (λ i. Calls s a t (Granted y.1 i ∷ []) (looks x.h x.waited x.notified ++ (finds_one x.h ticket y.0 ++ grants_it x.h))) number_is
          (whole (Granted y.1 u.number ∷ []) (finds_one x.h ticket y.0 ++ grants_it x.h) c)))
          y.3,
    )

    parts : (answer : Option ℕ) → EndsOne u x.h answer t → ComesTo u (at_place Rest u.sight.stands) t × OneFromLock u u.sight.stands x.h [] answer t
    parts None y = (y.0, y.1)
    parts (Some word) y = (y.0, y.1)

    pub locked_one : (answer : Option ℕ) → EndsOne u x.h answer t → NotifiesOne s answer t
    locked_one answer y = let p = parts answer y in record {
      comes = comes_whole p.0;
      h = x.h;
      waited = x.waited;
      notified = x.notified;
      rows = inr (unequal_is x.waited x.notified (sym x.answer), from_lock answer p.1);
    }

    pub least_one : (answer : Option ℕ) → EndsOne u x.h answer t → IfSome answer (λ word. GrantsLeast s word t)
    least_one None y = tt
    least_one (Some word) y = let g = y.2 in record {
      before = g.before;
      later = goes_on_more s.sight.seen u.sight.seen g.before (call_later s u a [] (looks x.h x.waited x.notified) x.call) g.later;
      seen = subst (λ i. GoesOn t.sight.seen (g.before ++ Granted ((told g.before).passed + 1) i ∷ [])) number_is g.seen;
      handed = g.handed;
      word_is = g.word_is ∙ ap (λ (q : SeatModel). Rattle.step_table.specs.Wrapping.word_of q.list.setting.first (told g.before).passed) x.comes.same;
    }

    pub none_one : (answer : Option ℕ) → EndsOne u x.h answer t → IfNone answer (AllGranted s t)
    none_one None y = let a = y.2 in let b = x.since in omega arith
    none_one (Some word) y = tt

    -- the lock was tried for: the answer, or the seat after its looks
    module _ {E : Type 0} where
      pub tried_rows : (r : Result (Option Notified) E) → MatchResult r (λ o. EndsOne u x.h (ticket_of o) t) (λ busy. FindsHeld u t)
          → MatchResult r (λ o. NotifiesOne s (ticket_of o) t) (λ busy. FindsHeldAfterLooks s t)
      tried_rows (Ok o) y = locked_one (ticket_of o) y
      tried_rows (Err busy) y = (u, x, y)

      pub tried_some : (r : Result (Option Notified) E) → MatchResult r (λ o. EndsOne u x.h (ticket_of o) t) (λ busy. FindsHeld u t)
          → IfOk r (λ o. IfSome (ticket_of o) (λ word. GrantsLeast s word t))
      tried_some (Ok o) y = least_one (ticket_of o) y
      tried_some (Err busy) y = tt

      pub tried_none : (r : Result (Option Notified) E) → MatchResult r (λ o. EndsOne u x.h (ticket_of o) t) (λ busy. FindsHeld u t)
          → IfOk r (λ o. IfNone (ticket_of o) (AllGranted s t))
      tried_none (Ok o) y = none_one (ticket_of o) y
      tried_none (Err busy) y = tt

-- whether the lock was taken, and else it was found held
pub kept_busy : {E : Type 0} (P : Option Notified → Type 0) (u t : SeatModel) (r : Result (Option Notified) E) → MatchResult r P (λ busy. FindsHeld u t)
    → MatchResult r (λ o. Unit {0}) (λ busy. FindsHeld u t)
kept_busy P u t (Ok o) y = tt
kept_busy P u t (Err busy) y = y

-- a grant that was told of a token, told of its seat
pub granted_wait : (l : ListModel) (t : Token) (n : ℕ) → list_of t ≡ l → (o : Option Notified) → HasGranted l o t
    → IfSome o (λ x. GrantsItsWait x (seat_of t n))
granted_wait l t n own None y = tt
granted_wait l t n own (Some x) y = subst (λ (q : ListModel). GrantsLast q x.ticket x.seat t) (sym own) y
