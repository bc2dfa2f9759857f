-- What taking a ticket, waiting and looking are to their caller, from what they are in rows.
use Rattle.std.proofs.Common.{◌≡◌, ℕ, ◌+◌, Bool, true, false, List, [], ◌∷◌, None, refl, sym, ap, ◌∙◌}
use Rattle.step_table.specs.declared.list_place.ListPlace.{ListPlace}
use Rattle.step_table.specs.declared.list_place.ListPlace.TheVariants.{Rest, Adding, Waiting, NotifyingOne}
use Rattle.step_table.specs.declared.list_place.OneRow.TheVariants.{O1, O2}
use Rattle.step_table.specs.declared.list_place.ListWord.TheVariants.{Grant}
use Rattle.step_table.specs.declared.list_place.Ticket.{Ticket}
use Rattle.step_table.specs.declared.list_place.WaitRow.TheVariants.{W1, W2, W3, W4, Parked as Asleep}
use Rattle.step_table.specs.declared.list_place.ListParkedRow.TheVariants.{P}
use Rattle.step_table.specs.Wrapping.{word_of, less}
use Rattle.step_table.specs.ListWorld.{Numbers, ListSeat, ListEntry, Took}
use Rattle.step_law_lists.specs.ListLawful.{told}
use Rattle.notify_list.specs.declared.waited.Waited.{Waited}
use Rattle.notify_list.specs.declared.waited.Waited.TheVariants.{AtOnce, Parked}
use Rattle.notify_list.specs.declared.waited.Entered.TheVariants as entered
use Rattle.notify_list.specs.declared.waited.Polled.TheVariants as polled
use Rattle.notify_list.specs.Places.{at_place, waiting}
use Rattle.notify_list.specs.Seats.{SeatModel}
use Rattle.notify_list.specs.Calls.{TellsIn, Calls, ComesTo, numbers_seen, AllGranted}
use Rattle.notify_list.specs.Tickets.{with_held, IsAdded, HasLooked, looks, after_looks}
use Rattle.notify_list.specs.Waiting.{IsWaited, IsGranted, IsQueued, TakesGrant, IsPolled}
use Rattle.notify_list.specs.Callers.{IsSeatAfter, GetsTicket, WaitsForGrant, FindsAllGranted, EntersWait, PollsGrant}
use Rattle.notify_list.proofs.Leading.{unequal_is}
use Rattle.step_law_lists.proofs.ListJournals.{told_more}
use Rattle.notify_list.proofs.Answering.{IsSound, seat_after, seen_as, seat_between, seat_since}
use Rattle.notify_list.proofs.CallersEnding.{after_look}
use Rattle.notify_list.proofs.Rereading.{call_ran, finds_handed, finds_granted}

module _ (s t : SeatModel) (is : IsSound t) where
  pub gets_ticket : IsAdded s t → GetsTicket s t
  gets_ticket x = (
    seat_after s t (at_place Adding s.sight.stands) (with_held x.ticket s.sight.stands) (Took s.number ∷ [])
        ((Adding, x.ticket.word) ∷ []) is.lawful x.comes x.call,
    (
      x.ticket,
      ap (λ (y : ListSeat). y.ticket) x.comes.stands_is,
      ap (λ (l : List ListEntry). (told l).handed) x.next.seen_is ∙ ap (λ (n : Numbers). n.handed) (told_more x.next.before (Took s.number))
          ∙ ap (λ n. n + 1) (sym x.next.number_is),
      x.next.word_is,
    ),
  )

  pub finds_all : (answer : Bool) → HasLooked s answer t → (answer ≡ true → AllGranted s t) → FindsAllGranted s answer t
  finds_all = by
    where
      after : (answer : Bool) (x : HasLooked s answer t) → IsSeatAfter s [] t
      after answer x = seat_after s t (at_place (NotifyingOne 0 O1) s.sight.stands) (at_place (after_looks x.h answer) s.sight.stands) []
          (looks x.h x.waited x.notified) is.lawful x.comes x.call

      by : (answer : Bool) → HasLooked s answer t → (answer ≡ true → AllGranted s t) → FindsAllGranted s answer t
      by true x granted = (after true x, granted refl)
      by false x granted =
          let begun : ListSeat = at_place (NotifyingOne 0 O1) s.sight.stands in
          let one = call_ran s t begun [] ((NotifyingOne x.h (O2 x.waited), x.notified) ∷ []) (NotifyingOne 0 O1) x.waited x.call in
          let two = call_ran s t begun ((NotifyingOne 0 O1, x.waited) ∷ []) [] (NotifyingOne x.h (O2 x.waited)) x.notified x.call in
          let handed = finds_handed x.call.reach one (λ seat. refl) in
          let granted = finds_granted x.call.reach two (λ seat. refl) in (
            seen_as s one.stride.seen,
            seat_between s t one.stride.seen (after false x) one.later one.now,
            seat_since s t one.stride.seen (after false x) one.later one.now,
            λ same. unequal_is x.waited x.notified (sym x.answer)
                (handed ∙ ap (word_of s.list.setting.first) (sym same ∙ ap (λ (l : List ListEntry). (told l).passed) (two.last refl)) ∙ sym granted),
          )

  abbrev waits_by : Ticket → ℕ → List (ListPlace × ℕ) → List (ListPlace × ℕ)
  waits_by ticket notified rest = (Waiting ticket W1, 0) ∷ (Waiting ticket W2, notified) ∷ rest

  -- the rows of a wait, after which the seat stands so, and the look that it took under the lock
  module _ (stands : ListSeat) where
    after_wait : (ticket : Ticket) (notified : ℕ) (rest : List (ListPlace × ℕ)) → ComesTo s stands t
        → Calls s (waiting s.sight.stands) t [] (waits_by ticket notified rest) → IsSeatAfter s [] t
    after_wait ticket notified rest comes call = seat_after s t (waiting s.sight.stands) stands [] (waits_by ticket notified rest) is.lawful comes call

    looks_with : (ticket : Ticket) (notified : ℕ) (before : Bool) (rest : List (ListPlace × ℕ)) → ComesTo s stands t
        → less ticket.word notified ≡ before
        → Calls s (waiting s.sight.stands) t [] (waits_by ticket notified rest)
        → (u : SeatModel) × (IsSeatAfter s [] u × (less ticket.word (word_of s.list.setting.first (numbers_seen u).passed) ≡ before))
        × TellsIn u.sight.seen [] t.sight.seen
    looks_with ticket notified before rest comes found call =
        let look = call_ran s t (waiting s.sight.stands) ((Waiting ticket W1, 0) ∷ []) rest (Waiting ticket W2) notified call in
        let after = after_wait ticket notified rest comes call in
        let granted = finds_granted call.reach look (λ seat. refl) in (
          seen_as s look.stride.seen,
          (seat_between s t look.stride.seen after look.later look.now, ap (less ticket.word) (sym granted) ∙ found),
          look.now,
        )

  abbrev rested : ListSeat
  rested = record { place = Rest; ticket = None; hand = s.sight.stands.hand; late = t.sight.stands.late }

  pub waits_for : (waited : Waited) → IsWaited s waited t → IsGranted s t → WaitsForGrant s waited t
  waits_for waited x granted = by waited x
    where
      by : (waited : Waited) → IsWaited s waited t → WaitsForGrant s waited t
      by AtOnce x =
          let rest = (Waiting x.ticket W3, 1) ∷ [] in (
            after_wait rested x.ticket x.notified rest x.comes x.how.1,
            ap (λ (y : ListSeat). y.ticket) x.comes.stands_is,
            (x.ticket, x.held, granted x.ticket x.held, looks_with rested x.ticket x.notified true rest x.comes x.how.0 x.how.1),
          )
      by Parked x =
          let rest = (Waiting x.ticket W4, 1) ∷ (Waiting x.ticket (Asleep P), 1) ∷ [] in (
            after_wait rested x.ticket x.notified rest x.comes x.how.1,
            ap (λ (y : ListSeat). y.ticket) x.comes.stands_is,
            (x.ticket, x.held, granted x.ticket x.held, looks_with rested x.ticket x.notified false rest x.comes x.how.0 x.how.1),
          )

  pub enters_at_once : IsWaited s AtOnce t × IsGranted s t → EntersWait s (entered.AtOnce t)
  enters_at_once x = waits_for AtOnce x.0 x.1

  pub enters_queued : IsQueued s t → EntersWait s (entered.Queued t)
  enters_queued x =
      let parked : ListSeat
      = record { place = Waiting x.ticket (Asleep P); ticket = None; hand = s.sight.stands.hand; late = t.sight.stands.late } in
      let rest = (Waiting x.ticket W4, 1) ∷ [] in (
        after_wait parked x.ticket x.notified rest x.comes x.call,
        (
          x.ticket,
          x.held,
          ap (λ (y : ListSeat). y.place) x.comes.stands_is,
          looks_with parked x.ticket x.notified false rest x.comes x.ungranted x.call,
        ),
      )

  pub polls_still : IsPolled s (polled.Still t) → PollsGrant s (polled.Still t)
  polls_still x = ((after_look s t (Grant s.number) 0 is.lawful x.1, x.1.stays), x.0)

  pub polls_granted : TakesGrant s t → PollsGrant s (polled.Granted t)
  polls_granted x = (
    seat_after s t s.sight.stands (at_place Rest s.sight.stands) [] ((Waiting x.ticket (Asleep P), 1) ∷ []) is.lawful x.comes x.call,
    ap (λ (y : ListSeat). y.ticket) x.comes.stands_is,
    (x.ticket, x.parked, x.granted),
  )
