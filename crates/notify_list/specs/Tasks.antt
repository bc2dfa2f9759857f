-- What each call of a task is, by its answer. What it did is what the list's own call does; where it was
-- refused nothing was done.
use Rattle.std.specs.Prelude.{◌≡◌, ◌≢◌, ℕ, Bool, true, Option, IfSome, IfNone, Result, Ok, Err, List}
use Rattle.std.specs.Prelude.{map}
use Rattle.notify_list.specs.declared.notified.Notified.{Notified}
use Rattle.notify_list.specs.declared.notified.NotifiedAll.{NotifiedAll}
use Rattle.notify_list.specs.declared.task_answers.TaskRefused.{TaskRefused}
use Rattle.notify_list.specs.declared.task_answers.TaskRefused.TheVariants.{OtherCall, Busy}
use Rattle.notify_list.specs.declared.task_answers.TaskEntered.{TaskEntered}
use Rattle.notify_list.specs.declared.task_answers.TaskEntered.TheVariants as enters
use Rattle.notify_list.specs.declared.task_answers.TaskPolled.{TaskPolled}
use Rattle.notify_list.specs.declared.task_answers.TaskPolled.TheVariants as polls
use Rattle.notify_list.specs.declared.task_answers.TaskGaveUp.{TaskGaveUp}
use Rattle.notify_list.specs.declared.task_answers.TaskGaveUp.TheVariants as gives
use Rattle.notify_list.specs.declared.task_seat.TaskStage.{TaskStage}
use Rattle.notify_list.specs.declared.task_seat.TaskStage.TheVariants.{Resting, Holding, Parked, OwingAll}
use Rattle.notify_list.specs.declared.waited.Entered.TheVariants as entered
use Rattle.notify_list.specs.declared.waited.Polled.TheVariants as polled
use Rattle.notify_list.specs.declared.waited.GaveUp.TheVariants as gave
use Rattle.notify_list.specs.Leaving.{Leaves, StillParked}
use Rattle.notify_list.specs.Seats.{ListModel, SeatModel}
use Rattle.notify_list.specs.Calls.{AllGranted}
use Rattle.notify_list.specs.Tickets.{IsAdded, HasTicket, HasLooked, FindsHeldAfterLooks}
use Rattle.notify_list.specs.Waiting.{IsEntered, IsPolled}
use Rattle.notify_list.specs.Notifying.{NotifiesOne, GrantsLeast, ticket_of, GrantsItsWait}
use Rattle.notify_list.specs.NotifyingAll.{NotifiesAll, GrantsSome, FindsHeldForAll, EndsAll, NamesSeats}
use Rattle.notify_list.specs.Making.{IsMadeWith, for_tasks}
use Rattle.notify_list.specs.Callers.{GetsTicket, FindsAllGranted, EntersWait, PollsGrant, GivesUp, NotifiesOneTicket}
use Rattle.notify_list.specs.Callers.{NotifiesAllTickets, EndsNotifyingAll, StandsOn, LeavesOne, LeavesAll}
use Rattle.notify_list.specs.Meeting.{FindsHeld}
use Rattle.notify_list.specs.TaskSeats.{TaskModel}

-- the seat stood here, and stands there
abbrev pub Goes : TaskModel → TaskStage → TaskStage → TaskModel → Type 0
Goes s from to t = (s.stage ≡ from) × (t.stage ≡ to)

-- why a call was refused: by another stage than this; by the lock
abbrev pub because : Type 0 → Type 0 → TaskRefused → Type 0
because other busy OtherCall = other
because other busy Busy = busy

-- nothing was done: the seat is as it was
abbrev pub Refuses : TaskModel → TaskModel → Type 0 → Type 0
Refuses s t why = (t ≡ s) × why

-- the same by another stage; or it found the lock held, and this is so
abbrev pub RefusesOrFinds : TaskModel → TaskModel → Type 0 → Type 0 → TaskRefused → Type 0
RefusesOrFinds s t other busy why = because ((t ≡ s) × other) busy why

abbrev pub AddsByTask : TaskModel → Result ℕ TaskRefused → TaskModel → Type 0
AddsByTask s (Ok word) t =
    Goes s Resting Holding t × IsAdded s.seat t.seat × GetsTicket s.seat t.seat × HasTicket t.seat word
AddsByTask s (Err why) t = Refuses s t (because (s.stage ≢ Resting) ⊥ why)

abbrev pub LooksByTask : TaskModel → Result Bool TaskRefused → TaskModel → Type 0
LooksByTask s (Ok equal) t =
    Goes s Resting Resting t × HasLooked s.seat equal t.seat × (equal ≡ true → AllGranted s.seat t.seat)
    × FindsAllGranted s.seat equal t.seat
LooksByTask s (Err why) t = Refuses s t (because (s.stage ≢ Resting) ⊥ why)

abbrev pub EntersByTask : TaskModel → Result TaskEntered TaskRefused → TaskModel → Type 0
EntersByTask s (Ok enters.AtOnce) t =
    Goes s Holding Resting t × IsEntered s.seat (entered.AtOnce t.seat)
    × EntersWait s.seat (entered.AtOnce t.seat)
EntersByTask s (Ok enters.Queued) t =
    Goes s Holding Parked t × IsEntered s.seat (entered.Queued t.seat)
    × EntersWait s.seat (entered.Queued t.seat)
EntersByTask s (Err why) t =
    RefusesOrFinds s t (s.stage ≢ Holding)
    (Goes s Holding Holding t × FindsHeld s.seat t.seat × StandsOn s.seat t.seat) why

abbrev pub PollsByTask : TaskModel → Result TaskPolled TaskRefused → TaskModel → Type 0
PollsByTask s (Ok polls.Still) t =
    Goes s Parked Parked t × IsPolled s.seat (polled.Still t.seat) × PollsGrant s.seat (polled.Still t.seat)
PollsByTask s (Ok polls.Granted) t =
    Goes s Parked Resting t × IsPolled s.seat (polled.Granted t.seat)
    × PollsGrant s.seat (polled.Granted t.seat)
PollsByTask s (Err why) t = Refuses s t (because (s.stage ≢ Parked) ⊥ why)

-- the answer of a task for that of the list's own call, and where the seat stands then
abbrev pub GaveUpBy : TaskModel → TaskGaveUp → TaskModel → Type 0
GaveUpBy s gives.Left t =
    Goes s Parked Resting t × Leaves s.seat (gave.Left t.seat) × GivesUp s.seat (gave.Left t.seat)
GaveUpBy s gives.Coming t =
    Goes s Parked Parked t × Leaves s.seat (gave.Coming t.seat) × GivesUp s.seat (gave.Coming t.seat)
GaveUpBy s gives.Granted t =
    Goes s Parked Resting t × Leaves s.seat (gave.Granted t.seat) × GivesUp s.seat (gave.Granted t.seat)
GaveUpBy s gives.LimitReached t =
    Goes s Parked Parked t × Leaves s.seat (gave.LimitReached t.seat) × GivesUp s.seat (gave.LimitReached t.seat)

abbrev pub LeavesByTask : TaskModel → Result TaskGaveUp TaskRefused → TaskModel → Type 0
LeavesByTask s (Ok gave_up) t = GaveUpBy s gave_up t
LeavesByTask s (Err why) t =
    RefusesOrFinds s t (s.stage ≢ Parked)
    (Goes s Parked Parked t × StillParked s.seat t.seat × StandsOn s.seat t.seat) why

-- where the lock stayed held, the seat has looked at the two words, and they differed
abbrev pub NotifiesOneByTask : TaskModel → Result (Option Notified) TaskRefused → TaskModel → Type 0
NotifiesOneByTask s (Ok notified) t =
    Goes s Resting Resting t × NotifiesOne s.seat (ticket_of notified) t.seat
    × IfSome (ticket_of notified) (λ word. GrantsLeast s.seat word t.seat)
    × IfNone (ticket_of notified) (AllGranted s.seat t.seat)
    × IfSome notified (λ n. GrantsItsWait n t.seat)
    × NotifiesOneTicket s.seat (ticket_of notified) t.seat
NotifiesOneByTask s (Err Busy) t =
    Goes s Resting Resting t × FindsHeldAfterLooks s.seat t.seat × LeavesOne s.seat t.seat
NotifiesOneByTask s (Err OtherCall) t = Refuses s t (s.stage ≢ Resting)

-- where the lock stayed held, the seat has looked at the two words, they differed, and it has to go on
abbrev pub NotifiesAllByTask : TaskModel → Result NotifiedAll TaskRefused → List ℕ → TaskModel → Type 0
NotifiesAllByTask s (Ok all) woken t =
    Goes s Resting Resting t × NotifiesAll s.seat all.tickets t.seat × GrantsSome s.seat all.tickets t.seat
    × AllGranted s.seat t.seat × NamesSeats s.seat.list woken all.waits t.seat
    × NotifiesAllTickets s.seat all.tickets t.seat
NotifiesAllByTask s (Err Busy) woken t =
    Goes s Resting OwingAll t × FindsHeldForAll s.seat t.seat × LeavesAll s.seat t.seat
NotifiesAllByTask s (Err OtherCall) woken t = Refuses s t (s.stage ≢ Resting)

abbrev pub GoesOnByTask : TaskModel → Result NotifiedAll TaskRefused → List ℕ → TaskModel → Type 0
GoesOnByTask s (Ok all) woken t =
    Goes s OwingAll Resting t × EndsAll s.seat all.tickets t.seat × NamesSeats s.seat.list woken all.waits t.seat
    × EndsNotifyingAll s.seat all.tickets t.seat
GoesOnByTask s (Err why) woken t =
    RefusesOrFinds s t (s.stage ≢ OwingAll)
    (Goes s OwingAll OwingAll t × FindsHeld s.seat t.seat × StandsOn s.seat t.seat) why

-- a list for tasks that starts so, and its seats in the order of their numbers, none of which has run
-- anything
abbrev pub IsMadeForTasks : ℕ → ℕ → ListModel → List TaskModel → Type 0
IsMadeForTasks first seats l made =
    (own : List SeatModel) × IsMadeWith (for_tasks first seats) l own
    × (made ≡ map (λ s. record { seat = s; stage = Resting }) own)
