-- What waiting promises.
use Rattle.std.specs.Prelude.{◌≡◌, ℕ, true, false, List, [], ◌∷◌, Some, None}
use Rattle.waiters.specs.declared.wait.Wait.{Wait}
use Rattle.step_table.specs.declared.list_place.ListPlace.TheVariants.{Rest, Waiting}
use Rattle.step_table.specs.declared.list_place.Ticket.{Ticket}
use Rattle.step_table.specs.declared.list_place.WaitRow.TheVariants.{W1, W2, W3, W4, Parked as Asleep}
use Rattle.step_table.specs.declared.list_place.ListParkedRow.TheVariants.{P}
use Rattle.step_table.specs.declared.list_place.ListWord.TheVariants.{Grant}
use Rattle.step_table.specs.Wrapping.{less}
use Rattle.step_table.specs.ListWorld.{ListSeat}
use Rattle.step_law_lists.specs.ListLawful.{IsGranted as IsTicketGranted}
use Rattle.notify_list.specs.declared.waited.Waited.{Waited}
use Rattle.notify_list.specs.declared.waited.Waited.TheVariants.{AtOnce, Parked}
use Rattle.notify_list.specs.declared.waited.Entered.{Entered}
use Rattle.notify_list.specs.declared.waited.Entered.TheVariants as entered
use Rattle.notify_list.specs.declared.waited.Polled.{Polled}
use Rattle.notify_list.specs.declared.waited.Polled.TheVariants as polled
use Rattle.notify_list.specs.Places.{at_place, waiting}
use Rattle.notify_list.specs.Seats.{SeatModel}
use Rattle.notify_list.specs.Calls.{Calls, ComesTo}
use Rattle.notify_list.specs.Meeting.{LooksAt}

-- the seat waited with this ticket, and read this in the notify word under the lock. The ticket was found
-- granted there, and the lock given back; or it wasn't, and the wait was queued in the same hold of the lock,
-- and granted
abbrev pub WaitsWith : SeatModel → Ticket → ℕ → Waited → SeatModel → Type 0
WaitsWith s ticket notified AtOnce t =
    (less ticket.word notified ≡ true)
    × Calls s (waiting s.sight.stands) t []
    ((Waiting ticket W1, 0) ∷ (Waiting ticket W2, notified) ∷ (Waiting ticket W3, 1) ∷ [])
WaitsWith s ticket notified Parked t =
    (less ticket.word notified ≡ false)
    × Calls s (waiting s.sight.stands) t []
    ((Waiting ticket W1, 0) ∷ (Waiting ticket W2, notified) ∷ (Waiting ticket W4, 1) ∷
    (Waiting ticket (Asleep P), 1) ∷ [])

-- the seat waited with the ticket that it held, and rests without one
pub record IsWaited (s : SeatModel) (waited : Waited) (t : SeatModel) : Type 0 where
  pub ticket : Ticket
  pub held : s.sight.stands.ticket ≡ Some ticket
  pub notified : ℕ
  pub how : WaitsWith s ticket notified waited t
  pub comes : ComesTo s
      (record { place = Rest; ticket = None; hand = s.sight.stands.hand; late = t.sight.stands.late }) t

-- the ticket that the seat held is granted
abbrev pub IsGranted : SeatModel → SeatModel → Type 0
IsGranted s t =
    (ticket : Ticket) → s.sight.stands.ticket ≡ Some ticket → IsTicketGranted ticket.number t.sight.seen

-- the seat is parked with this ticket
abbrev pub parked_with : Ticket → List Wait → ℕ → ListSeat
parked_with ticket hand late =
    record { place = Waiting ticket (Asleep P); ticket = None; hand = hand; late = late }

-- the seat went to the lock with the ticket that it held, and read this in the notify word there: the ticket
-- wasn't granted, and the wait was queued in the same hold of the lock
pub record IsQueued (s t : SeatModel) : Type 0 where
  pub ticket : Ticket
  pub held : s.sight.stands.ticket ≡ Some ticket
  pub notified : ℕ
  pub ungranted : less ticket.word notified ≡ false
  pub call : Calls s (waiting s.sight.stands) t []
      ((Waiting ticket W1, 0) ∷ (Waiting ticket W2, notified) ∷ (Waiting ticket W4, 1) ∷ [])
  pub comes : ComesTo s (parked_with ticket s.sight.stands.hand t.sight.stands.late) t

-- the ticket was found granted, and the seat rests without one; or the wait is queued
abbrev pub IsEntered : SeatModel → Entered → Type 0
IsEntered s (entered.AtOnce t) = IsWaited s AtOnce t × IsGranted s t
IsEntered s (entered.Queued t) = IsQueued s t

-- the seat's wait was queued, it took its grant, and rests: the ticket is granted
pub record TakesGrant (s t : SeatModel) : Type 0 where
  pub ticket : Ticket
  pub parked : s.sight.stands.place ≡ Waiting ticket (Asleep P)
  pub call : Calls s s.sight.stands t [] ((Waiting ticket (Asleep P), 1) ∷ [])
  pub comes : ComesTo s (at_place Rest s.sight.stands) t
  pub granted : IsTicketGranted ticket.number t.sight.seen

-- nothing but a look at the seat's own grant word, which found nothing there; or the grant was taken
abbrev pub IsPolled : SeatModel → Polled → Type 0
IsPolled s (polled.Still t) =
    ((ticket : Ticket) × (s.sight.stands.place ≡ Waiting ticket (Asleep P))) × LooksAt s (Grant s.number) 0 t
IsPolled s (polled.Granted t) = TakesGrant s t
