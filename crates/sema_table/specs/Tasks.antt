-- What each call of a task is, by its answer. What it did is what the table's own call does; where it was
-- refused nothing was done.
use Rattle.std.specs.Prelude.{◌≡◌, ◌≢◌, ℕ, ◌≤◌, ◌<◌, Bool, Result, Ok, Err, List, length, map}
use Rattle.arrayvec.specs.ArrayVec.{ArrayVec}
use Rattle.step_table.specs.declared.place.AcquireRow.TheVariants.{A3}
use Rattle.step_table.specs.declared.place.Place.TheVariants.{Acquiring}
use Rattle.sema_table.specs.declared.answers.Entered.TheVariants as entered
use Rattle.sema_table.specs.declared.answers.GaveUp.TheVariants as gave_up
use Rattle.sema_table.specs.declared.answers.Polled.TheVariants as polled
use Rattle.sema_table.specs.declared.answers.Posted.TheVariants as posted
use Rattle.sema_table.specs.declared.answers.Retried.TheVariants as retried
use Rattle.sema_table.specs.declared.answers.Tried.{Tried}
use Rattle.sema_table.specs.declared.answers.Wake.{Wake}
use Rattle.sema_table.specs.declared.many_seat.PostedMany.TheVariants as many
use Rattle.sema_table.specs.declared.settings.Settings.{Settings}
use Rattle.sema_table.specs.declared.task_answers.TaskRefused.{TaskRefused}
use Rattle.sema_table.specs.declared.task_answers.TaskRefused.TheVariants.{OtherCall, NoCounter, Busy, LimitReached, Units}
use Rattle.sema_table.specs.declared.task_answers.TaskPosted.{TaskPosted}
use Rattle.sema_table.specs.declared.task_answers.TaskPosted.TheVariants.{Done, Owes}
use Rattle.sema_table.specs.declared.task_answers.TaskEntered.{TaskEntered}
use Rattle.sema_table.specs.declared.task_answers.TaskEntered.TheVariants as enters
use Rattle.sema_table.specs.declared.task_answers.TaskPolled.{TaskPolled}
use Rattle.sema_table.specs.declared.task_answers.TaskPolled.TheVariants as polls
use Rattle.sema_table.specs.declared.task_answers.TaskGaveUp.{TaskGaveUp}
use Rattle.sema_table.specs.declared.task_answers.TaskGaveUp.TheVariants as gives
use Rattle.sema_table.specs.declared.task_answers.TaskRetried.{TaskRetried}
use Rattle.sema_table.specs.declared.task_answers.TaskRetried.TheVariants as retries
use Rattle.sema_table.specs.declared.task_seat.TaskStage.{TaskStage}
use Rattle.sema_table.specs.declared.task_seat.TaskStage.TheVariants.{Resting, Owing, OwingMany, Sleeping, Woken}
use Rattle.sema_table.specs.Seats.{TableModel, SeatModel}
use Rattle.sema_table.specs.Changes.{HasChanged}
use Rattle.sema_table.specs.Outcomes.{IfLost}
use Rattle.sema_table.specs.Making.{IsMadeWith}
use Rattle.sema_table.specs.Rule.{for_tasks}
use Rattle.sema_table.specs.Tries.{IsValue, IsWaiters, IsTried, IsPosted, FindsHeld}
use Rattle.sema_table.specs.Waking.{acquire_of, IsEntered, IsPolled, TriesWoken, IsWakened, StillOwes}
use Rattle.sema_table.specs.Leaving.{Leaves, StillParked}
use Rattle.sema_table.specs.Many.{release_of, IsPostedMany, IsWokenSeats, StillOwesMany}
use Rattle.sema_table.specs.Callers.{StandsOn, ReadsNumber, CountsWaits, TriesToAcquire, JoinsQueue, PollsGrant, TriesOnce}
use Rattle.sema_table.specs.CallersLeaving.{GivesUp}
use Rattle.sema_table.specs.CallersReleasing.{PostsUnit, PostsUnits, WakesFirst, WakesThese}
use Rattle.sema_table.specs.declared.task_seat.Stage.{Stage}
use Rattle.sema_table.specs.TaskSeats.{TaskModel, stage_of}

-- the seat stood here, and stands there
abbrev pub Goes : TaskModel → TaskStage → TaskStage → TaskModel → Type 0
Goes s from to t = (s.stage ≡ from) × (t.stage ≡ to)

-- why a call was refused: by another stage than this; by a counter that isn't there; by these
abbrev pub because : Type 0 → Type 0 → Type 0 → Type 0 → Type 0 → TaskRefused → Type 0
because other counter busy limit units OtherCall = other
because other counter busy limit units NoCounter = counter
because other counter busy limit units Busy = busy
because other counter busy limit units LimitReached = limit
because other counter busy limit units Units = units

-- what holds after units were added, by what it came to
abbrev pub MatchPosted : TaskPosted → Type 0 → Type 0 → Type 0
MatchPosted Done done owes = done
MatchPosted Owes done owes = owes

-- there is no such counter
abbrev pub HasNot : TaskModel → ℕ → Type 0
HasNot s c = length s.seat.table.setting.starts ≤ c

-- why a seat that stands there may begin no call on this counter
abbrev pub Unfit : TableModel → Stage → ℕ → TaskRefused → Type 0
Unfit table stage c = because (stage_of stage ≢ Resting) (length table.setting.starts ≤ c) ⊥ ⊥ ⊥

-- nothing was done: the seat is as it was
abbrev pub Refuses : TaskModel → TaskModel → Type 0 → Type 0
Refuses s t why = (t ≡ s) × why

-- the same by another stage or counter; or it found a lock held, and this is so
abbrev pub RefusesOrFinds : TaskModel → TaskModel → Type 0 → Type 0 → Type 0 → TaskRefused → Type 0
RefusesOrFinds s t other counter busy why = because ((t ≡ s) × other) ((t ≡ s) × counter) busy ⊥ ⊥ why

abbrev pub ReadsByTask : TaskModel → ℕ → Result ℕ TaskRefused → TaskModel → Type 0
ReadsByTask s c (Ok n) t = Goes s Resting Resting t × IsValue s.seat c n t.seat × ReadsNumber s.seat c n t.seat
ReadsByTask s c (Err why) t = Refuses s t (because (s.stage ≢ Resting) (HasNot s c) ⊥ ⊥ ⊥ why)

abbrev pub CountsByTask : TaskModel → ℕ → Result ℕ TaskRefused → TaskModel → Type 0
CountsByTask s c (Ok n) t = Goes s Resting Resting t × IsWaiters s.seat c n t.seat × CountsWaits s.seat c n t.seat
CountsByTask s c (Err why) t = Refuses s t (because (s.stage ≢ Resting) (HasNot s c) ⊥ ⊥ ⊥ why)

abbrev pub TriesByTask : TaskModel → ℕ → Result Tried TaskRefused → TaskModel → Type 0
TriesByTask s c (Ok tried) t =
    Goes s Resting Resting t × IsTried s.seat c tried t.seat × TriesToAcquire s.seat c tried t.seat
    × IfLost tried (HasChanged c s.seat.sight.seen t.seat.sight.seen)
TriesByTask s c (Err why) t = Refuses s t (because (s.stage ≢ Resting) (HasNot s c) ⊥ ⊥ ⊥ why)

abbrev pub PostsByTask : TaskModel → ℕ → Result TaskPosted TaskRefused → TaskModel → Type 0
PostsByTask s c (Ok Done) t =
    Goes s Resting Resting t × IsPosted s.seat c (posted.Done t.seat)
    × PostsUnit s.seat c (Ok (posted.Done t.seat))
PostsByTask s c (Ok Owes) t =
    Goes s Resting Owing t × IsPosted s.seat c (posted.Owes t.seat)
    × PostsUnit s.seat c (Ok (posted.Owes t.seat))
PostsByTask s c (Err why) t =
    Refuses s t (because (s.stage ≢ Resting) (HasNot s c) ⊥ (s.seat.left ≡ 0) ⊥ why)

abbrev pub PostsManyByTask : TaskModel → ℕ → ℕ → Result TaskPosted TaskRefused → TaskModel → Type 0
PostsManyByTask s c units (Ok Done) t =
    Goes s Resting Resting t × IsPostedMany s.seat (release_of c units) (many.Done t.seat)
    × PostsUnits s.seat c units (Ok (many.Done t.seat))
PostsManyByTask s c units (Ok Owes) t =
    Goes s Resting OwingMany t × IsPostedMany s.seat (release_of c units) (many.Owes t.seat)
    × PostsUnits s.seat c units (Ok (many.Owes t.seat))
PostsManyByTask s c units (Err why) t =
    Refuses s t (because (s.stage ≢ Resting) (HasNot s c) ⊥ (s.seat.left < units)
    ((1 ≤ units) × (units ≤ 256) → ⊥) why)

abbrev pub EntersByTask : TaskModel → ℕ → Bool → Result TaskEntered TaskRefused → TaskModel → Type 0
EntersByTask s c lifo (Ok enters.Taken) t =
    Goes s Resting Resting t
    × IsEntered s.seat (acquire_of c lifo) (Acquiring (acquire_of c lifo) A3) (entered.Taken t.seat)
    × JoinsQueue s.seat c lifo (entered.Taken t.seat)
EntersByTask s c lifo (Ok enters.Asleep) t =
    Goes s Resting Sleeping t
    × IsEntered s.seat (acquire_of c lifo) (Acquiring (acquire_of c lifo) A3) (entered.Asleep t.seat)
    × JoinsQueue s.seat c lifo (entered.Asleep t.seat)
EntersByTask s c lifo (Err why) t =
    RefusesOrFinds s t (s.stage ≢ Resting) (HasNot s c)
    (Goes s Resting Resting t × FindsHeld s.seat c t.seat × StandsOn s.seat t.seat) why

abbrev pub PollsByTask : TaskModel → Result TaskPolled TaskRefused → TaskModel → Type 0
PollsByTask s (Ok polls.Still) t =
    Goes s Sleeping Sleeping t × IsPolled s.seat (polled.Still t.seat) × PollsGrant s.seat (polled.Still t.seat)
PollsByTask s (Ok polls.Woken) t =
    Goes s Sleeping Woken t × IsPolled s.seat (polled.Woken t.seat) × PollsGrant s.seat (polled.Woken t.seat)
PollsByTask s (Ok polls.Handed) t =
    Goes s Sleeping Resting t × IsPolled s.seat (polled.Handed t.seat) × PollsGrant s.seat (polled.Handed t.seat)
PollsByTask s (Err why) t = Refuses s t (because (s.stage ≢ Sleeping) ⊥ ⊥ ⊥ ⊥ why)

abbrev pub LeavesByTask : TaskModel → Result TaskGaveUp TaskRefused → TaskModel → Type 0
LeavesByTask s (Ok gives.Left) t =
    Goes s Sleeping Resting t × Leaves s.seat (gave_up.Left t.seat) × GivesUp s.seat (gave_up.Left t.seat)
LeavesByTask s (Ok gives.Coming) t =
    Goes s Sleeping Sleeping t × Leaves s.seat (gave_up.Coming t.seat) × GivesUp s.seat (gave_up.Coming t.seat)
LeavesByTask s (Ok gives.Woken) t =
    Goes s Sleeping Woken t × Leaves s.seat (gave_up.Woken t.seat) × GivesUp s.seat (gave_up.Woken t.seat)
LeavesByTask s (Ok gives.Handed) t =
    Goes s Sleeping Resting t × Leaves s.seat (gave_up.Handed t.seat) × GivesUp s.seat (gave_up.Handed t.seat)
LeavesByTask s (Err why) t =
    because ((t ≡ s) × (s.stage ≢ Sleeping)) ⊥
    (Goes s Sleeping Sleeping t × StillParked s.seat t.seat × StandsOn s.seat t.seat)
    (Goes s Sleeping Sleeping t × Leaves s.seat (gave_up.LimitReached t.seat)
    × GivesUp s.seat (gave_up.LimitReached t.seat)) ⊥ why

abbrev pub RetriesByTask : TaskModel → Result TaskRetried TaskRefused → TaskModel → Type 0
RetriesByTask s (Ok retries.Taken) t =
    Goes s Woken Resting t × TriesWoken s.seat (retried.Taken t.seat) × TriesOnce s.seat (retried.Taken t.seat)
RetriesByTask s (Ok retries.Zero) t =
    Goes s Woken Resting t × TriesWoken s.seat (retried.Zero t.seat) × TriesOnce s.seat (retried.Zero t.seat)
RetriesByTask s (Err why) t = Refuses s t (because (s.stage ≢ Woken) ⊥ ⊥ ⊥ ⊥ why)

abbrev pub WakesByTask : TaskModel → Bool → Result Wake TaskRefused → TaskModel → Type 0
WakesByTask s handoff (Ok wake) t =
    Goes s Owing Resting t × IsWakened s.seat handoff t.seat wake × WakesFirst s.seat handoff t.seat wake
WakesByTask s handoff (Err why) t =
    RefusesOrFinds s t (s.stage ≢ Owing) ⊥
    (Goes s Owing Owing t × StillOwes s.seat t.seat × StandsOn s.seat t.seat) why

abbrev pub WakesSomeByTask : TaskModel → Result (ArrayVec ℕ) TaskRefused → TaskModel → Type 0
WakesSomeByTask s (Ok seats) t =
    Goes s OwingMany Resting t × IsWokenSeats s.seat t.seat seats.items × WakesThese s.seat t.seat seats.items
WakesSomeByTask s (Err why) t =
    RefusesOrFinds s t (s.stage ≢ OwingMany) ⊥
    (Goes s OwingMany OwingMany t × StillOwesMany s.seat t.seat × StandsOn s.seat t.seat) why

-- a table for tasks with these settings, and its seats in the order of their numbers, none of which has run
-- anything
abbrev pub IsMadeForTasks : Settings → TableModel → List TaskModel → Type 0
IsMadeForTasks k t seats =
    (made : List SeatModel) × IsMadeWith (for_tasks k) t made × (seats ≡ map (λ s. record { seat = s; stage = Resting }) made)
