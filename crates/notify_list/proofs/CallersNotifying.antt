-- What notifying one and all are to their caller, from what they are in rows.
use Rattle.std.proofs.Common.{◌≡◌, ◌≢◌, ◌⊎◌, ℕ, zero, suc, ◌+◌, List, [], ◌∷◌, ◌++◌, Option, Some, None, Result, Ok, Err, IfSome, IfNone, IfOk, MatchResult, inl}
use Rattle.std.proofs.Common.{false}
use Rattle.std.proofs.Common.{inr, ⊎_elim, sym, arith}
use Rattle.waiters.specs.declared.wait.Wait.{Wait}
use Rattle.step_table.specs.declared.list_place.ListPlace.{ListPlace}
use Rattle.step_table.specs.declared.list_place.ListPlace.TheVariants.{Rest, NotifyingOne, NotifyingAll}
use Rattle.step_table.specs.declared.list_place.AllRow.TheVariants.{L1}
use Rattle.step_table.specs.declared.list_place.OneRow.TheVariants.{O1}
use Rattle.step_table.specs.ListWorld.{ListSeat, ListEntry, Granted}
use Rattle.step_table.specs.Path.{GoesOn}
use Rattle.step_table.proofs.Paths.{goes_on_more}
use Rattle.step_law_lists.specs.ListLawful.{told, Follows}
use Rattle.notify_list.specs.Places.{at_place}
use Rattle.notify_list.specs.Seats.{SeatModel}
use Rattle.notify_list.specs.Calls.{Calls, AllGranted}
use Rattle.notify_list.specs.declared.notified.Notified.{Notified}
use Rattle.notify_list.specs.Tickets.{looks, FindsHeldAfterLooks}
use Rattle.notify_list.specs.Meeting.{FindsHeld}
use Rattle.notify_list.specs.Notifying.{OneFromLock, NotifiesOne, GrantsLeast, ticket_of}
use Rattle.notify_list.specs.NotifyingAll.{looks_all, all_rows, all_entries, NotifiesAll, GrantsSome, GrantsUpTo, EndsAll}
use Rattle.notify_list.specs.Callers.{IsSeatAfter, NotifiesOneTicket, NotifiesAllTickets, FindsAllGranted, LeavesOne, GrantsAllSeen, EndsNotifyingAll}
use Rattle.notify_list.proofs.CallersEnding.{stands_on}
use Rattle.notify_list.proofs.Answering.{seat_after, seen_as, seat_between, seat_since, seat_before, granted_it}

module _ (s t : SeatModel) (lawful : Follows t.sight.seen) where
  -- the least ticket was granted
  least : (word upto : ℕ) → IsSeatAfter s (Granted upto s.number ∷ []) t → GrantsLeast s word t → NotifiesOneTicket s (Some word) t
  least word upto after g = let granted = (told g.before).passed + 1 in (
    seen_as s g.before,
    seat_before s t g.before upto granted after g.later g.seen,
    g.handed,
    g.word_is,
    granted_it s t g.before upto granted after g.later g.seen,
    g.seen,
  )

  pub notifies_one : (answer : Option ℕ) → NotifiesOne s answer t → IfSome answer (λ word. GrantsLeast s word t)
      → IfNone answer (AllGranted s t) → NotifiesOneTicket s answer t
  notifies_one answer x = by answer x.rows
    where
      begun : ListSeat
      begun = at_place (NotifyingOne 0 O1) s.sight.stands

      after : {entries : List ListEntry} {rows : List (ListPlace × ℕ)} → Calls s begun t entries rows → IsSeatAfter s entries t
      after {entries} {rows} call = seat_after s t begun (at_place Rest s.sight.stands) entries rows lawful x.comes call

      by : (answer : Option ℕ) → ((answer ≡ None) × (x.waited ≡ x.notified) × Calls s begun t [] (looks x.h x.waited x.notified))
          ⊎ ((x.waited ≢ x.notified) × OneFromLock s begun x.h (looks x.h x.waited x.notified) answer t)
          → IfSome answer (λ word. GrantsLeast s word t) → IfNone answer (AllGranted s t) → NotifiesOneTicket s answer t
      by None (inl quiet) some none = (after quiet.2, none)
      by None (inr locked) some none = (after locked.1.1, none)
      by (Some word) (inl quiet) some none = absurd cc
      by (Some word) (inr locked) some none = least word locked.1.1 (⊎_elim after after locked.1.3) some

  -- all were granted that were handed out
  all_seen : (n handed : ℕ) → IsSeatAfter s (Granted handed s.number ∷ []) t → GrantsUpTo s (suc n) t → GrantsAllSeen s (suc n) t
  all_seen n handed after g =
      let now : GoesOn t.sight.seen (g.before ++ Granted (told g.look).handed s.number ∷ []) = g.seen in
      let later = goes_on_more s.sight.seen g.look g.before g.first g.later in
      let before = seat_before s t g.before handed (told g.look).handed after later now in (
        seen_as s g.look,
        seen_as s g.before,
        seat_between s (seen_as s g.before) g.look before g.first g.later,
        seat_since s (seen_as s g.before) g.look before g.first g.later,
        sym g.all,
        granted_it s t g.before handed (told g.look).handed after later now,
        now,
      )

  pub ends_notifying : (n : ℕ) → EndsAll s n t → EndsNotifyingAll s n t
  ends_notifying n x = ((x.h, x.begun, x.granted), by n x.call x.count)
    where
      by : (n : ℕ) → Calls s s.sight.stands t (all_entries s.number x.handed n) (all_rows x.h x.was x.now x.handed n x.hand)
          → GrantsSome s n t → GrantsAllSeen s n t
      by zero call some = seat_after s t s.sight.stands (at_place Rest s.sight.stands) [] (all_rows x.h x.was x.now x.handed 0 x.hand) lawful x.comes call
      by (suc n) call some = all_seen n x.handed
          (seat_after s t s.sight.stands (at_place Rest s.sight.stands) (Granted x.handed s.number ∷ [])
          (all_rows x.h x.was x.now x.handed (suc n) x.hand) lawful x.comes call) some

  pub notifies_all : (n : ℕ) → NotifiesAll s n t → GrantsSome s n t → AllGranted s t → NotifiesAllTickets s n t
  notifies_all n x = by n x.rows
    where
      begun : ListSeat
      begun = at_place (NotifyingAll 0 L1) s.sight.stands

      after : {entries : List ListEntry} {rows : List (ListPlace × ℕ)} → Calls s begun t entries rows → IsSeatAfter s entries t
      after {entries} {rows} call = seat_after s t begun (at_place Rest s.sight.stands) entries rows lawful x.comes call

      by : (n : ℕ) → ((n ≡ 0) × (x.waited ≡ x.notified) × Calls s begun t [] (looks_all x.h x.waited x.notified))
          ⊎ ((x.waited ≢ x.notified) × ((was now handed : ℕ) × (hand : List Wait)
          × Calls s begun t (all_entries s.number handed n) (looks_all x.h x.waited x.notified ++ all_rows x.h was now handed n hand)))
          → GrantsSome s n t → AllGranted s t → NotifiesAllTickets s n t
      by zero (inl quiet) some granted = (granted, after quiet.2)
      by zero (inr locked) some granted = (granted, after locked.1.4)
      by (suc n) (inl quiet) some granted = absurd (let e = quiet.0 in omega arith)
      by (suc n) (inr locked) some granted = (granted, all_seen n locked.1.2 (after locked.1.4) some)

-- the same of a call that tried for the lock
pub tries_one : {E : Type 0} (s u t : SeatModel) → Follows t.sight.seen → FindsAllGranted s false u → (r : Result (Option Notified) E)
    → MatchResult r (λ o. NotifiesOne s (ticket_of o) t) (λ busy. FindsHeldAfterLooks s t)
    → MatchResult r (λ o. Unit {0}) (λ busy. FindsHeld u t)
    → IfOk r (λ o. IfSome (ticket_of o) (λ word. GrantsLeast s word t)) → IfOk r (λ o. IfNone (ticket_of o) (AllGranted s t))
    → MatchResult r (λ o. NotifiesOneTicket s (ticket_of o) t) (λ busy. LeavesOne s t)
tries_one s u t lawful looked (Ok o) rows same some none = notifies_one s t lawful (ticket_of o) rows some none
tries_one s u t lawful looked (Err busy) rows same some none = (u, looked, stands_on u t lawful same)
