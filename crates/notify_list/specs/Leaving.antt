-- What the call promises by which a parked seat gives up.
use Rattle.std.specs.Prelude.{◌≡◌, ℕ, ◌≤◌, ◌^◌, List, [], ◌∷◌}
use Rattle.step_table.specs.declared.list_place.ListPlace.{ListPlace}
use Rattle.step_table.specs.declared.list_place.ListPlace.TheVariants.{Rest, Waiting}
use Rattle.step_table.specs.declared.list_place.ListParkedRow.TheVariants.{P, E1, E2, E3, E5}
use Rattle.step_table.specs.declared.list_place.Ticket.{Ticket}
use Rattle.step_table.specs.declared.list_place.WaitRow.TheVariants.{E4, Parked as Asleep}
use Rattle.step_table.specs.ListWorld.{ListEntry, Forgone}
use Rattle.step_table.specs.Path.{GoesOn}
use Rattle.step_law_lists.specs.ListLawful.{Follows, times_forgone, times_granted, IsGranted as IsTicketGranted}
use Rattle.notify_list.specs.declared.waited.GaveUp.{GaveUp}
use Rattle.notify_list.specs.declared.waited.GaveUp.TheVariants.{Left, Coming, Granted, LimitReached}
use Rattle.notify_list.specs.declared.waited.Polled.TheVariants as polled
use Rattle.notify_list.specs.Places.{at_place, giving_up}
use Rattle.notify_list.specs.Seats.{SeatModel}
use Rattle.notify_list.specs.Calls.{Calls, ComesTo, numbers_seen}
use Rattle.notify_list.specs.Meeting.{FindsHeld}
use Rattle.notify_list.specs.Waiting.{IsPolled}

-- the wait was queued: it was taken out, and the ticket is gone
abbrev pub left_rows : Ticket → ℕ → List (ListPlace × ℕ)
left_rows ticket notified =
    (Waiting ticket (Asleep E1), 0) ∷ (Waiting ticket (Asleep E2), notified)
    ∷ (Waiting ticket (Asleep (E3 notified)), notified) ∷ (Waiting ticket E4, 1) ∷ []

-- it wasn't
abbrev pub coming_rows : Ticket → List (ListPlace × ℕ)
coming_rows ticket = (Waiting ticket (Asleep E1), 0) ∷ (Waiting ticket (Asleep E5), 1) ∷ []

-- the ticket of this number has gone: it isn't granted, and in no journal that goes on from this one
pub record HasLeft (n : ℕ) (seen : List ListEntry) : Type 0 where
  pub gone : times_forgone n seen ≡ 1
  pub never : (journal : List ListEntry) → GoesOn journal seen → Follows journal → times_granted n journal ≡ 0

-- the rows from the lock on of a seat that was parked. It told that its ticket is gone, and rests; or it told
-- nothing, and is parked as it was, since its ticket was granted. Nothing else comes of these rows
abbrev pub LeavesAtLock : SeatModel → GaveUp → Type 0
LeavesAtLock s (Left t) =
    (ticket : Ticket) × (notified : ℕ) × (s.sight.stands.place ≡ Waiting ticket (Asleep P))
    × Calls s (giving_up s.sight.stands) t (Forgone ticket.number s.number ∷ []) (left_rows ticket notified)
    × ComesTo s (at_place Rest s.sight.stands) t × HasLeft ticket.number t.sight.seen
LeavesAtLock s (Coming t) =
    (ticket : Ticket) × (s.sight.stands.place ≡ Waiting ticket (Asleep P))
    × Calls s (giving_up s.sight.stands) t [] (coming_rows ticket)
    × ComesTo s s.sight.stands t × IsTicketGranted ticket.number t.sight.seen
LeavesAtLock s _ = ⊥

-- the parked seat looked at its grant word, as in a poll. Where it found a grant it took that, and else it went
-- to the lock, unless 2^60 tickets were handed out
abbrev pub Leaves : SeatModel → GaveUp → Type 0
Leaves s (Left t) = (u : SeatModel) × IsPolled s (polled.Still u) × LeavesAtLock u (Left t)
Leaves s (Coming t) = (u : SeatModel) × IsPolled s (polled.Still u) × LeavesAtLock u (Coming t)
Leaves s (Granted t) = IsPolled s (polled.Granted t)
Leaves s (LimitReached t) = IsPolled s (polled.Still t) × (2 ^ 60 ≤ (numbers_seen t).handed)

-- nothing but looks: at the grant word, where nothing was, and at the lock, which was held
abbrev pub StillParked : SeatModel → SeatModel → Type 0
StillParked s t = (u : SeatModel) × IsPolled s (polled.Still u) × FindsHeld u t
