-- What a list's calls tell beside their codes.
use Rattle.std.specs.Prelude.{◌≡◌, ◌≢◌, ℕ, ◌⊎◌, ◌<◌, Option, Some, None, List, length}
use Rattle.notify_list.specs.declared.notified.Notified.{Notified}
use Rattle.notify_list.specs.declared.notified.NotifiedAll.{NotifiedAll}
use Rattle.notify_list.specs.declared.task_answers.TaskRefused.{TaskRefused}
use Rattle.notify_list.specs.declared.task_seat.TaskStage.TheVariants.{OwingAll}
use Rattle.notify_list.specs.Tasks.{NotifiesAllByTask, GoesOnByTask}
use Rattle.notify_list.specs.TaskSeats.{TaskModel}
use Rattle.c_calls.specs.Answers.{Call}

-- a notification of all is begun by a seat that rests; one that was busy with it goes on. The seats that were
-- woken are named at the beginning of the room
abbrev pub NotifiesOrGoesOn : List ℕ → Call TaskModel TaskRefused NotifiedAll
NotifiesOrGoesOn woken s a t =
    ((s.stage ≢ OwingAll) × NotifiesAllByTask s a woken t) ⊎ ((s.stage ≡ OwingAll) × GoesOnByTask s a woken t)

-- n is this seat's number, if there is one
abbrev pub IsNumberOf : ℕ → Option ℕ → Type 0
IsNumberOf n None = Unit {0}
IsNumberOf n (Some seat) = n ≡ seat

-- n is the number of the seat that was woken, if one was
abbrev pub NamesGranted : ℕ → Option Notified → Type 0
NamesGranted n None = Unit {0}
NamesGranted n (Some notified) = IsNumberOf n notified.seat

-- there isn't room for the numbers of all seats of the list: the seat is as it was
abbrev pub LacksSeats : List ℕ → Option TaskModel → ℕ → Option TaskModel → Type 0
LacksSeats room None code now = ⊥
LacksSeats room (Some s) code now = (code ≡ 107) × (length room < s.seat.list.setting.seats) × (now ≡ Some s)

-- so many seats were woken
abbrev pub CountsAll : ℕ → NotifiedAll → Type 0
CountsAll n all = n ≡ all.waits
