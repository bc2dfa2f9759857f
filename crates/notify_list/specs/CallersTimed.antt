-- What a wait with a time-out is to its caller.
use Rattle.std.specs.Prelude.{◌≡◌, [], ◌∷◌, Some, None}
use Rattle.step_table.specs.declared.list_place.ListPlace.TheVariants.{Rest}
use Rattle.step_table.specs.declared.list_place.Ticket.{Ticket}
use Rattle.step_table.specs.ListWorld.{Forgone}
use Rattle.notify_list.specs.declared.waited.Waited.TheVariants as waited
use Rattle.notify_list.specs.declared.waited.WaitedUntil.{WaitedUntil}
use Rattle.notify_list.specs.declared.waited.WaitedUntil.TheVariants.{AtOnce, Parked, TimedOut}
use Rattle.notify_list.specs.declared.waited.Polled.TheVariants as polled
use Rattle.notify_list.specs.declared.waited.GaveUp.TheVariants as gave
use Rattle.notify_list.specs.Seats.{SeatModel}
use Rattle.notify_list.specs.Leaving.{HasLeft}
use Rattle.notify_list.specs.Calls.{TellsIn}
use Rattle.notify_list.specs.Callers.{IsSeatAfter, LooksWith, WaitsForGrant, PollsGrant, GivesUp}

-- the parked seat's ticket is granted now, and it holds none; or its ticket is gone, and it rests
abbrev pub SleepsInTime : SeatModel → WaitedUntil → SeatModel → Type 0
SleepsInTime s AtOnce t = ⊥
SleepsInTime s Parked t = PollsGrant s (polled.Granted t)
SleepsInTime s TimedOut t = GivesUp s (gave.Left t) × (t.sight.stands.place ≡ Rest)

-- the seat looked with the ticket that it held, which wasn't granted, and queued its wait. Then it left: the
-- ticket is gone, and is never granted, and the seat rests without one
abbrev pub TimesOut : SeatModel → SeatModel → Type 0
TimesOut s t =
    (ticket : Ticket) × (s.sight.stands.ticket ≡ Some ticket) × HasLeft ticket.number t.sight.seen
    × IsSeatAfter s (Forgone ticket.number s.number ∷ []) t
    × (t.sight.stands.place ≡ Rest) × (t.sight.stands.ticket ≡ None)
    × ((u : SeatModel) × LooksWith s ticket waited.Parked u
    × TellsIn u.sight.seen (Forgone ticket.number s.number ∷ []) t.sight.seen)

-- the ticket that the seat held is granted now, as after a wait without a time; or the time was over
abbrev pub WaitsInTime : SeatModel → WaitedUntil → SeatModel → Type 0
WaitsInTime s AtOnce t = WaitsForGrant s waited.AtOnce t
WaitsInTime s Parked t = WaitsForGrant s waited.Parked t
WaitsInTime s TimedOut t = TimesOut s t
