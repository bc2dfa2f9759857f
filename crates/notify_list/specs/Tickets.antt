-- What taking a ticket promises, and looking whether all are granted.
use Rattle.std.specs.Prelude.{◌≡◌, ℕ, ◌<◌, ◌≤◌, ◌==◌, if◌then◌else◌, Bool, false, List, [], ◌∷◌, ◌++◌, Some}
use Rattle.step_table.specs.declared.list_place.ListPlace.{ListPlace}
use Rattle.step_table.specs.declared.list_place.ListPlace.TheVariants.{Rest, Adding, NotifyingOne}
use Rattle.step_table.specs.declared.list_place.OneRow.TheVariants.{O1, O2, O3}
use Rattle.step_table.specs.declared.list_place.Ticket.{Ticket}
use Rattle.step_table.specs.Wrapping.{word_of}
use Rattle.step_table.specs.ListWorld.{ListSeat, ListEntry, Took}
use Rattle.step_law_lists.specs.ListLawful.{told}
use Rattle.notify_list.specs.Places.{at_place}
use Rattle.notify_list.specs.Seats.{SeatModel}
use Rattle.notify_list.specs.Calls.{Calls, ComesTo, numbers_seen}
use Rattle.notify_list.specs.Meeting.{FindsHeld}

-- the seat at rest, with this ticket
abbrev pub with_held : Ticket → ListSeat → ListSeat
with_held ticket a = record { place = Rest; ticket = Some ticket; hand = a.hand; late = a.late }

-- the ticket is the next one: its number is how many were handed out before, and its word is that of its
-- number
pub record IsNextTicket (s : SeatModel) (ticket : Ticket) (t : SeatModel) : Type 0 where
  pub before : List ListEntry
  pub seen_is : t.sight.seen ≡ before ++ Took s.number ∷ []
  pub number_is : ticket.number ≡ (told before).handed
  pub word_is : ticket.word ≡ word_of s.list.setting.first ticket.number

-- the seat took the next ticket by one row, and holds it
pub record IsAdded (s t : SeatModel) : Type 0 where
  pub ticket : Ticket
  pub comes : ComesTo s (with_held ticket s.sight.stands) t
  pub call : Calls s (at_place Adding s.sight.stands) t (Took s.number ∷ []) ((Adding, ticket.word) ∷ [])
  pub next : IsNextTicket s ticket t

-- the seat holds a ticket with this word, which is that of the ticket's number; it was handed out
pub record HasTicket (s : SeatModel) (word : ℕ) : Type 0 where
  pub ticket : Ticket
  pub held : s.sight.stands.ticket ≡ Some ticket
  pub word_is : word ≡ ticket.word
  pub shown : word ≡ word_of s.list.setting.first ticket.number
  pub handed : ticket.number < (numbers_seen s).handed

-- the first two looks of a notification: the wait word was this, then the notify word that; h tickets were
-- handed out at the first
abbrev pub looks : ℕ → ℕ → ℕ → List (ListPlace × ℕ)
looks h waited notified = (NotifyingOne 0 O1, waited) ∷ (NotifyingOne h (O2 waited), notified) ∷ []

-- where they lead
abbrev pub after_looks : ℕ → Bool → ListPlace
after_looks h equal = if equal then Rest else NotifyingOne h O3

-- the seat looked at both words; the answer is whether they were equal. All tickets that it has seen handed
-- out were so at the first look
pub record HasLooked (s : SeatModel) (equal : Bool) (t : SeatModel) : Type 0 where
  pub h : ℕ
  pub waited : ℕ
  pub notified : ℕ
  pub answer : equal ≡ (waited == notified)
  pub comes : ComesTo s (at_place (after_looks h equal) s.sight.stands) t
  pub call : Calls s (at_place (NotifyingOne 0 O1) s.sight.stands) t [] (looks h waited notified)
  pub since : (numbers_seen s).handed ≤ h

-- they differed, and then the seat found the lock held
abbrev pub FindsHeldAfterLooks : SeatModel → SeatModel → Type 0
FindsHeldAfterLooks s t = (u : SeatModel) × HasLooked s false u × FindsHeld u t
