-- What a notification of all promises.
use Rattle.std.specs.Prelude.{◌≡◌, ◌≢◌, ◌⊎◌, ℕ, zero, suc, ◌+◌, ◌≤◌, Bool, true, false, List, [], ◌∷◌}
use Rattle.std.specs.Prelude.{◌++◌, length, map, take}
use Rattle.waiters.specs.declared.wait.Wait.{Wait}
use Rattle.step_table.specs.declared.list_place.AllRow.TheVariants.{L1, L2, L3, L4, L5, L6, L7, L8}
use Rattle.step_table.specs.declared.list_place.ListPlace.{ListPlace}
use Rattle.step_table.specs.declared.list_place.ListPlace.TheVariants.{Rest, NotifyingAll}
use Rattle.step_table.specs.declared.list_place.ListWord.TheVariants.{Grant}
use Rattle.step_table.specs.ListWorld.{ListEntry, Granted}
use Rattle.step_law_lists.specs.ListPath.{ListStride}
use Rattle.step_table.specs.Path.{GoesOn, own_entries}
use Rattle.step_law_lists.specs.ListLawful.{told}
use Rattle.notify_list.specs.Places.{at_place}
use Rattle.notify_list.specs.Rule.{watched}
use Rattle.notify_list.specs.Seats.{ListModel, SeatModel}
use Rattle.notify_list.specs.Rows.{HasStored}
use Rattle.notify_list.specs.Setting.{address}
use Rattle.notify_list.specs.Calls.{Calls, ComesTo, numbers_seen}
use Rattle.notify_list.specs.Meeting.{FindsHeld}

-- the two first looks: the wait word was this, then the notify word that; h tickets were handed out at the
-- first
abbrev pub looks_all : ℕ → ℕ → ℕ → List (ListPlace × ℕ)
looks_all h waited notified = (NotifyingAll 0 L1, waited) ∷ (NotifyingAll h (L2 waited), notified) ∷ []

-- both words were read again under the lock, when so many tickets were handed out, and the notify word was
-- set to the wait word
abbrev pub reach_rows : ℕ → ℕ → ℕ → ℕ → List (ListPlace × ℕ)
reach_rows h notified waited handed =
    (NotifyingAll h L4, notified) ∷ (NotifyingAll h (L5 notified), waited)
    ∷ (NotifyingAll h (L6 (record { notified = notified; waited = waited; handed = handed })), notified) ∷ []

-- the seat of each of these waits was granted, one row each
abbrev pub wake_rows : ℕ → List Wait → List (ListPlace × ℕ)
wake_rows h hand = map (λ w. (NotifyingAll h L8, 0)) hand

-- all rows from the lock on, by which n tickets were granted, and these waits taken out
abbrev pub all_rows : ℕ → ℕ → ℕ → ℕ → ℕ → List Wait → List (ListPlace × ℕ)
all_rows h notified waited handed n hand =
    (NotifyingAll h L3, 0) ∷
    (reach_rows h notified waited handed ++ (NotifyingAll h (L7 n), 1) ∷ wake_rows h hand)

-- one entry, by which so many tickets are granted, or none where that granted no ticket
abbrev pub all_entries : ℕ → ℕ → ℕ → List ListEntry
all_entries i upto zero = []
all_entries i upto (suc n) = Granted upto i ∷ []

-- the two first looks found one word, and nothing was granted; or they differed, and all was done under the
-- lock
pub record NotifiesAll (s : SeatModel) (n : ℕ) (t : SeatModel) : Type 0 where
  pub comes : ComesTo s (at_place Rest s.sight.stands) t
  pub h : ℕ
  pub waited : ℕ
  pub notified : ℕ
  pub rows :
      ((n ≡ 0) × (waited ≡ notified)
      × Calls s (at_place (NotifyingAll 0 L1) s.sight.stands) t [] (looks_all h waited notified))
      ⊎ ((waited ≢ notified)
      × ((was now handed : ℕ) × (hand : List Wait)
      × Calls s (at_place (NotifyingAll 0 L1) s.sight.stands) t (all_entries s.number handed n)
      (looks_all h waited notified ++ all_rows h was now handed n hand)))

-- n tickets were granted, by one entry of the seat which stands after all that it had seen before: all that
-- were handed out when it read the wait word and were neither granted nor gone
pub record GrantsUpTo (s : SeatModel) (n : ℕ) (t : SeatModel) : Type 0 where
  pub before : List ListEntry
  pub look : List ListEntry
  pub first : GoesOn look s.sight.seen
  pub later : GoesOn before look
  pub seen : GoesOn t.sight.seen (before ++ Granted (told look).handed s.number ∷ [])
  pub all : (told look).handed ≡ (told before).passed + n + length (told before).gone

-- the seat granted so many: none, and told nothing; or by one entry
abbrev pub GrantsSome : SeatModel → ℕ → SeatModel → Type 0
GrantsSome s zero t =
    own_entries (watched s.list.setting) s.number t.sight.seen
    ≡ own_entries (watched s.list.setting) s.number s.sight.seen
GrantsSome s (suc n) t = GrantsUpTo s (suc n) t

-- the two first looks differed, and the seat goes to the lock. All tickets that it had seen handed out were
-- so at the first look
pub record LooksForAll (s t : SeatModel) : Type 0 where
  pub h : ℕ
  pub waited : ℕ
  pub notified : ℕ
  pub unequal : waited ≢ notified
  pub comes : ComesTo s (at_place (NotifyingAll h L3) s.sight.stands) t
  pub call : Calls s (at_place (NotifyingAll 0 L1) s.sight.stands) t [] (looks_all h waited notified)
  pub since : (numbers_seen s).handed ≤ h

-- and there it found the lock held
abbrev pub FindsHeldForAll : SeatModel → SeatModel → Type 0
FindsHeldForAll s t = (u : SeatModel) × LooksForAll s u × FindsHeld u t

-- the rows from the lock on, of a seat whose first look found h tickets handed out: these are granted
pub record EndsAll (s : SeatModel) (n : ℕ) (t : SeatModel) : Type 0 where
  pub h : ℕ
  pub begun : s.sight.stands.place ≡ NotifyingAll h L3
  pub comes : ComesTo s (at_place Rest s.sight.stands) t
  pub was : ℕ
  pub now : ℕ
  pub handed : ℕ
  pub hand : List Wait
  pub call : Calls s s.sight.stands t (all_entries s.number handed n) (all_rows h was now handed n hand)
  pub count : GrantsSome s n t
  pub granted : h ≤ (numbers_seen t).passed

-- after the first strides came one for each of these seats, in order, which stored a 1 in its grant word
abbrev pub StoresGrants : List ℕ → List ListStride → List ListStride → Type 0
StoresGrants [] before now = now ≡ before
StoresGrants (seat ∷ seats) before now =
    (p : ListStride) × HasStored p (address (Grant seat)) 1 × StoresGrants seats (before ++ p ∷ []) now

-- the seat of a wait is granted there
abbrev pub grants_seat : ListPlace → Bool
grants_seat (NotifyingAll h L8) = true
grants_seat _ = false

-- last of all the seat granted these seats, in this order: the stride before granted none
pub record GrantsSeats (seats : List ℕ) (t : SeatModel) : Type 0 where
  pub before : List ListStride
  pub stride : ListStride
  pub none : grants_seat stride.stood.place ≡ false
  pub stored : StoresGrants seats (before ++ stride ∷ []) t.strides

-- the same of the seats at the beginning of a room, so many, and no more than the list has
abbrev pub NamesSeats : ListModel → List ℕ → ℕ → SeatModel → Type 0
NamesSeats l room count t = (count ≤ l.setting.seats) × GrantsSeats (take count room) t
