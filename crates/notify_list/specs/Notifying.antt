-- What a notification of one promises.
use Rattle.std.specs.Prelude.{◌≡◌, ◌≢◌, ◌⊎◌, ℕ, ◌+◌, ◌<◌, ◌≤◌, List, [], ◌∷◌, ◌++◌, Option, Some, None}
use Rattle.step_table.specs.declared.list_place.ListPlace.{ListPlace}
use Rattle.step_table.specs.declared.list_place.ListPlace.TheVariants.{Rest, NotifyingOne}
use Rattle.step_table.specs.declared.list_place.OneRow.TheVariants.{O1, O3, O4, O5, O6, O7, O8, O9}
use Rattle.step_table.specs.Wrapping.{word_of}
use Rattle.step_table.specs.ListWorld.{ListSeat, ListEntry, Granted}
use Rattle.step_table.specs.declared.list_place.ListWord.TheVariants.{Grant}
use Rattle.step_table.specs.Path.{GoesOn, runs}
use Rattle.step_law_lists.specs.ListLawful.{told}
use Rattle.step_law_lists.specs.ListPath.{ListStride}
use Rattle.notify_list.specs.declared.notified.Notified.{Notified}
use Rattle.notify_list.specs.Setting.{address}
use Rattle.notify_list.specs.Rows.{HasStored}
use Rattle.notify_list.specs.Places.{at_place}
use Rattle.notify_list.specs.Seats.{SeatModel}
use Rattle.notify_list.specs.Calls.{Calls, ComesTo}
use Rattle.notify_list.specs.Tickets.{looks}

-- the lock was taken and the notify word read again; the wait word was equal to it now
abbrev pub finds_none : ℕ → ℕ → List (ListPlace × ℕ)
finds_none h ticket =
    (NotifyingOne h O3, 0) ∷ (NotifyingOne h O4, ticket) ∷ (NotifyingOne h (O5 ticket), ticket) ∷
    (NotifyingOne h O6, 1) ∷ []

-- the wait word was another, and the ticket of the notify word was granted
abbrev pub finds_one : ℕ → ℕ → ℕ → List (ListPlace × ℕ)
finds_one h ticket waited =
    (NotifyingOne h O3, 0) ∷ (NotifyingOne h O4, ticket) ∷ (NotifyingOne h (O5 ticket), waited)
    ∷ (NotifyingOne h (O7 ticket), ticket) ∷ (NotifyingOne h (O8 ticket), 1) ∷ []

-- the seat of the ticket's wait was granted
abbrev pub grants_it : ℕ → List (ListPlace × ℕ)
grants_it h = (NotifyingOne h O9, 0) ∷ []

-- the rows from the lock on. Nothing was granted; or one entry was told, and the ticket's wait wasn't in the
-- list or was granted
abbrev pub OneFromLock : SeatModel → ListSeat → ℕ → List (ListPlace × ℕ) → Option ℕ → SeatModel → Type 0
OneFromLock s begun h before None t = (ticket : ℕ) × Calls s begun t [] (before ++ finds_none h ticket)
OneFromLock s begun h before (Some ticket) t =
    (waited upto : ℕ) × (waited ≢ ticket)
    × (Calls s begun t (Granted upto s.number ∷ []) (before ++ finds_one h ticket waited)
    ⊎ Calls s begun t (Granted upto s.number ∷ []) (before ++ (finds_one h ticket waited ++ grants_it h)))

-- the whole: the two first looks found one word, and nothing was granted; or they differed, and the seat went
-- to the lock
pub record NotifiesOne (s : SeatModel) (answer : Option ℕ) (t : SeatModel) : Type 0 where
  pub comes : ComesTo s (at_place Rest s.sight.stands) t
  pub h : ℕ
  pub waited : ℕ
  pub notified : ℕ
  pub rows :
      ((answer ≡ None) × (waited ≡ notified)
      × Calls s (at_place (NotifyingOne 0 O1) s.sight.stands) t [] (looks h waited notified))
      ⊎ ((waited ≢ notified)
      × OneFromLock s (at_place (NotifyingOne 0 O1) s.sight.stands) h (looks h waited notified) answer t)

-- the seat granted the least ticket that wasn't granted, and that alone, by an entry of its own which stands
-- after all that it had seen before. The ticket was handed out, and this is its word
pub record GrantsLeast (s : SeatModel) (word : ℕ) (t : SeatModel) : Type 0 where
  pub before : List ListEntry
  pub later : GoesOn before s.sight.seen
  pub seen : GoesOn t.sight.seen (before ++ Granted ((told before).passed + 1) s.number ∷ [])
  pub handed : (told before).passed < (told before).handed
  pub word_is : word ≡ word_of s.list.setting.first (told before).passed

-- the rows of a notification from O3 on, whose first look found h tickets handed out. Where it answers none,
-- these are granted
abbrev pub EndsOne : SeatModel → ℕ → Option ℕ → SeatModel → Type 0
EndsOne s h None t =
    ComesTo s (at_place Rest s.sight.stands) t × OneFromLock s s.sight.stands h [] None t
    × (h ≤ (told t.sight.seen).passed)
EndsOne s h (Some word) t =
    ComesTo s (at_place Rest s.sight.stands) t × OneFromLock s s.sight.stands h [] (Some word) t
    × GrantsLeast s word t

-- the ticket of the answer
abbrev pub ticket_of : Option Notified → Option ℕ
ticket_of None = None
ticket_of (Some n) = Some n.ticket

-- the last of these strides stored a 1 in the grant word of this seat
pub record StoresGrant (strides : List ListStride) (seat : ℕ) : Type 0 where
  pub before : List ListStride
  pub stride : ListStride
  pub last : strides ≡ before ++ stride ∷ []
  pub stored : HasStored stride (address (Grant seat)) 1

-- the last of them gave the lock back, with no wait taken out
pub record GivesLockLast (strides : List ListStride) (ticket : ℕ) : Type 0 where
  pub before : List ListStride
  pub stride : ListStride
  pub last : strides ≡ before ++ stride ∷ []
  pub ran : stride.deed ≡ runs
  pub h : ℕ
  pub stood : stride.stood.place ≡ NotifyingOne h (O8 ticket)

-- of the ticket that was granted, the seat of its wait was granted last, which is one of so many; or nobody
-- was, since its wait wasn't in the list
abbrev pub GivesLast : ℕ → ℕ → Option ℕ → List ListStride → Type 0
GivesLast seats ticket None strides = GivesLockLast strides ticket
GivesLast seats ticket (Some seat) strides = (seat < seats) × StoresGrant strides seat

abbrev pub GrantsItsWait : Notified → SeatModel → Type 0
GrantsItsWait n t = GivesLast t.list.setting.seats n.ticket n.seat t.strides
