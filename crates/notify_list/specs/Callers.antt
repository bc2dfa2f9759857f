-- What each call is to its caller: the seat before and after, the entries that it told, tickets, and what the
-- answer means.
use Rattle.std.specs.Prelude.{◌≡◌, ◌≢◌, ℕ, zero, suc, ◌+◌, ◌<◌, ◌≤◌, ◌^◌, Bool, true, false, List, [], ◌∷◌, ◌++◌, length}
use Rattle.std.specs.Prelude.{Option, Some, None}
use Rattle.std.specs.List.{filter}
use Rattle.step_table.specs.declared.list_place.AllRow.TheVariants.{L3}
use Rattle.step_table.specs.declared.list_place.ListPlace.TheVariants.{Waiting, NotifyingAll}
use Rattle.step_table.specs.declared.list_place.Ticket.{Ticket}
use Rattle.step_table.specs.declared.list_place.WaitRow.TheVariants.{Parked as Asleep}
use Rattle.step_table.specs.declared.list_place.ListParkedRow.TheVariants.{P}
use Rattle.step_table.specs.ListWorld.{ListEntry, Took, Granted, Forgone}
use Rattle.step_table.specs.Path.{GoesOn}
use Rattle.step_table.specs.Wrapping.{word_of, less}
use Rattle.step_law_lists.specs.ListLawful.{told, Follows, IsInReach, IsGranted as IsTicketGranted}
use Rattle.step_law_lists.specs.ListPath.{is_own}
use Rattle.running_rows.specs.Rule.{In}
use Rattle.notify_list.specs.declared.closed.ListClosed.{ListClosed}
use Rattle.notify_list.specs.declared.view.Setting.{Setting}
use Rattle.notify_list.specs.declared.waited.Waited.{Waited}
use Rattle.notify_list.specs.declared.waited.Waited.TheVariants.{AtOnce, Parked}
use Rattle.notify_list.specs.declared.waited.Entered.{Entered}
use Rattle.notify_list.specs.declared.waited.Entered.TheVariants as entered
use Rattle.notify_list.specs.declared.waited.Polled.{Polled}
use Rattle.notify_list.specs.declared.waited.Polled.TheVariants as polled
use Rattle.notify_list.specs.declared.waited.GaveUp.{GaveUp}
use Rattle.notify_list.specs.declared.waited.GaveUp.TheVariants as gave
use Rattle.notify_list.specs.Seats.{SeatModel}
use Rattle.notify_list.specs.Leaving.{HasLeft}
use Rattle.notify_list.specs.Calls.{TellsIn, AllGranted, numbers_seen}

-- t is the seat s of the same list, after it has told these entries, in this order, among what others told,
-- and nothing else; and what it has seen is lawful, a journal of which the laws speak
pub record IsSeatAfter (s : SeatModel) (entries : List ListEntry) (t : SeatModel) : Type 0 where
  pub list : t.list ≡ s.list
  pub number : t.number ≡ s.number
  pub tells : TellsIn s.sight.seen entries t.sight.seen
  pub own : filter (is_own s.number) t.sight.seen ≡ filter (is_own s.number) (s.sight.seen ++ entries)
  pub lawful : Follows t.sight.seen
  pub reach : IsInReach t.sight.seen

-- nothing was done: the seat stands as it stood, and has seen more of what others told
abbrev pub StandsOn : SeatModel → SeatModel → Type 0
StandsOn s t = IsSeatAfter s [] t × (t.sight.stands ≡ s.sight.stands)

-- the seat took the ticket that is the last handed out in what it has seen, and holds it; the ticket has the
-- word of its number
abbrev pub GetsTicket : SeatModel → SeatModel → Type 0
GetsTicket s t =
    IsSeatAfter s (Took s.number ∷ []) t
    × ((ticket : Ticket) × (t.sight.stands.ticket ≡ Some ticket)
    × ((numbers_seen t).handed ≡ ticket.number + 1)
    × (ticket.word ≡ word_of s.list.setting.first ticket.number))

-- the seat looked, under the lock, whether its ticket comes before the first that isn't granted: if so, it
-- never slept
abbrev pub LooksWith : SeatModel → Ticket → Waited → SeatModel → Type 0
LooksWith s ticket AtOnce u =
    IsSeatAfter s [] u × (less ticket.word (word_of s.list.setting.first (numbers_seen u).passed) ≡ true)
LooksWith s ticket Parked u =
    IsSeatAfter s [] u × (less ticket.word (word_of s.list.setting.first (numbers_seen u).passed) ≡ false)

-- the seat waited with the ticket that it held, which is granted now, and holds none
abbrev pub WaitsForGrant : SeatModel → Waited → SeatModel → Type 0
WaitsForGrant s waited t =
    IsSeatAfter s [] t × (t.sight.stands.ticket ≡ None)
    × ((ticket : Ticket) × (s.sight.stands.ticket ≡ Some ticket) × IsTicketGranted ticket.number t.sight.seen
    × ((u : SeatModel) × LooksWith s ticket waited u × TellsIn u.sight.seen [] t.sight.seen))

-- the seat is parked: its wait with this ticket is queued
abbrev pub IsParkedWith : SeatModel → Ticket → Type 0
IsParkedWith s ticket = s.sight.stands.place ≡ Waiting ticket (Asleep P)

-- the ticket was found granted, under the lock; or it wasn't, and the seat is parked with it
abbrev pub EntersWait : SeatModel → Entered → Type 0
EntersWait s (entered.AtOnce t) = WaitsForGrant s AtOnce t
EntersWait s (entered.Queued t) =
    IsSeatAfter s [] t
    × ((ticket : Ticket) × (s.sight.stands.ticket ≡ Some ticket) × IsParkedWith t ticket
    × ((u : SeatModel) × LooksWith s ticket Parked u × TellsIn u.sight.seen [] t.sight.seen))

-- the seat is parked on, with the same ticket; or its ticket is granted now, and it holds none
abbrev pub PollsGrant : SeatModel → Polled → Type 0
PollsGrant s (polled.Still t) = StandsOn s t × ((ticket : Ticket) × IsParkedWith s ticket)
PollsGrant s (polled.Granted t) =
    IsSeatAfter s [] t × (t.sight.stands.ticket ≡ s.sight.stands.ticket)
    × ((ticket : Ticket) × IsParkedWith s ticket × IsTicketGranted ticket.number t.sight.seen)

-- the seat's ticket is gone, and it told that: it is never granted. Or it told nothing, and is parked on: its
-- ticket was granted; or 2^60 tickets were handed out. Or its ticket is granted now, and it holds none
abbrev pub GivesUp : SeatModel → GaveUp → Type 0
GivesUp s (gave.Left t) =
    (ticket : Ticket) × IsParkedWith s ticket × IsSeatAfter s (Forgone ticket.number s.number ∷ []) t
    × (t.sight.stands.ticket ≡ s.sight.stands.ticket) × HasLeft ticket.number t.sight.seen
GivesUp s (gave.Coming t) =
    StandsOn s t × ((ticket : Ticket) × IsParkedWith s ticket × IsTicketGranted ticket.number t.sight.seen)
GivesUp s (gave.Granted t) = PollsGrant s (polled.Granted t)
GivesUp s (gave.LimitReached t) =
    StandsOn s t × ((ticket : Ticket) × IsParkedWith s ticket) × (2 ^ 60 ≤ (numbers_seen t).handed)

-- by one entry, as the last that it told, the seat granted the least ticket that wasn't granted, and the
-- answer is its word; or all tickets are granted of which it knew before
abbrev pub NotifiesOneTicket : SeatModel → Option ℕ → SeatModel → Type 0
NotifiesOneTicket s (Some word) t =
    (u : SeatModel) × IsSeatAfter s [] u
    × ((numbers_seen u).passed < (numbers_seen u).handed)
    × (word ≡ word_of s.list.setting.first (numbers_seen u).passed)
    × IsSeatAfter s (Granted ((numbers_seen u).passed + 1) s.number ∷ []) t
    × TellsIn (u.sight.seen ++ Granted ((numbers_seen u).passed + 1) s.number ∷ []) [] t.sight.seen
NotifiesOneTicket s None t = IsSeatAfter s [] t × AllGranted s t

-- all tickets are granted of which the seat knew before, or their seats have left. It told nothing; or one
-- entry, by which all n were granted that were handed out when it looked, and were neither granted nor gone
abbrev pub NotifiesAllTickets : SeatModel → ℕ → SeatModel → Type 0
NotifiesAllTickets s zero t = AllGranted s t × IsSeatAfter s [] t
NotifiesAllTickets s (suc n) t =
    AllGranted s t
    × ((look u : SeatModel) × IsSeatAfter s [] look × IsSeatAfter look [] u
    × ((numbers_seen u).passed + suc n + length (numbers_seen u).gone ≡ (numbers_seen look).handed)
    × IsSeatAfter s (Granted (numbers_seen look).handed s.number ∷ []) t
    × TellsIn (u.sight.seen ++ Granted (numbers_seen look).handed s.number ∷ []) [] t.sight.seen)

-- the seat has to go on with a notification of all, which found h tickets handed out
abbrev pub IsNotifyingAll : SeatModel → ℕ → Type 0
IsNotifyingAll s h = s.sight.stands.place ≡ NotifyingAll h L3

-- the seat has to go on: it found no fewer tickets handed out than it knew of
abbrev pub LooksToNotifyAll : SeatModel → SeatModel → Type 0
LooksToNotifyAll s t = IsSeatAfter s [] t × ((h : ℕ) × IsNotifyingAll t h × ((numbers_seen s).handed ≤ h))

-- it told nothing; or one entry, by which all n were granted that were handed out when it looked, and were
-- neither granted nor gone
abbrev pub GrantsAllSeen : SeatModel → ℕ → SeatModel → Type 0
GrantsAllSeen s zero t = IsSeatAfter s [] t
GrantsAllSeen s (suc n) t =
    (look u : SeatModel) × IsSeatAfter s [] look × IsSeatAfter look [] u
    × ((numbers_seen u).passed + suc n + length (numbers_seen u).gone ≡ (numbers_seen look).handed)
    × IsSeatAfter s (Granted (numbers_seen look).handed s.number ∷ []) t
    × TellsIn (u.sight.seen ++ Granted (numbers_seen look).handed s.number ∷ []) [] t.sight.seen

-- the tickets are granted that the notification found handed out
abbrev pub EndsNotifyingAll : SeatModel → ℕ → SeatModel → Type 0
EndsNotifyingAll s n t =
    ((h : ℕ) × IsNotifyingAll s h × (h ≤ (numbers_seen t).passed)) × GrantsAllSeen s n t

-- all tickets are granted of which the seat knew before; or it saw another number granted than, a look
-- earlier, handed out
abbrev pub FindsAllGranted : SeatModel → Bool → SeatModel → Type 0
FindsAllGranted s true t = IsSeatAfter s [] t × AllGranted s t
FindsAllGranted s false t =
    (u : SeatModel) × IsSeatAfter s [] u × IsSeatAfter u [] t
    × ((numbers_seen t).passed ≢ (numbers_seen u).handed)

-- a notification of one is left, after its looks, at a lock that is held
abbrev pub LeavesOne : SeatModel → SeatModel → Type 0
LeavesOne s t = (u : SeatModel) × FindsAllGranted s false u × StandsOn u t

-- and so is one of all, with which the seat has to go on
abbrev pub LeavesAll : SeatModel → SeatModel → Type 0
LeavesAll s t = (u : SeatModel) × LooksToNotifyAll s u × StandsOn u t

-- two seats have seen one journal now, and nothing else of them has changed
pub record SeeTheSame (one other one_now other_now : SeatModel) : Type 0 where
  pub one_after : IsSeatAfter one [] one_now
  pub other_after : IsSeatAfter other [] other_now
  pub same : one_now.sight.seen ≡ other_now.sight.seen
  pub two : one.number ≢ other.number

-- all seats, of each number one, end their list. There is one lawful journal, of which each has seen a
-- beginning with all that it told; each ticket that was handed out is granted, and the two words are those of
-- how many these are
pub record EndsList (z : Setting) (seats : List SeatModel) (c : ListClosed) : Type 0 where
  pub journal : List ListEntry
  pub lawful : Follows journal
  pub reach : IsInReach journal
  pub begins : (s : SeatModel) → In s seats → GoesOn journal s.sight.seen
  pub each : (k : ℕ) → k < z.seats → (s : SeatModel) × In s seats × (s.number ≡ k)
  pub own : (s : SeatModel) → In s seats
      → filter (is_own s.number) journal ≡ filter (is_own s.number) s.sight.seen
  pub granted : (told journal).passed ≡ (told journal).handed
  pub next : c.next ≡ word_of z.first (told journal).handed
  pub notified : c.notified ≡ c.next
