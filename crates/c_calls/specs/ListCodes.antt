-- The code of each answer of a list.
use Rattle.std.specs.Prelude.{ℕ, Option, None, Some}
use Rattle.notify_list.specs.declared.notified.Notified.{Notified}
use Rattle.notify_list.specs.declared.setup_error.SetupError.{SetupError}
use Rattle.notify_list.specs.declared.setup_error.SetupError.TheVariants as setup
use Rattle.notify_list.specs.declared.task_answers.TaskEntered.{TaskEntered}
use Rattle.notify_list.specs.declared.task_answers.TaskEntered.TheVariants as enters
use Rattle.notify_list.specs.declared.task_answers.TaskGaveUp.{TaskGaveUp}
use Rattle.notify_list.specs.declared.task_answers.TaskGaveUp.TheVariants as gives
use Rattle.notify_list.specs.declared.task_answers.TaskPolled.{TaskPolled}
use Rattle.notify_list.specs.declared.task_answers.TaskPolled.TheVariants as polls
use Rattle.notify_list.specs.declared.task_answers.TaskRefused.{TaskRefused}
use Rattle.notify_list.specs.declared.task_answers.TaskRefused.TheVariants.{OtherCall, Busy}

abbrev pub entered_code : TaskEntered → ℕ
entered_code enters.AtOnce = 11
entered_code enters.Queued = 12

abbrev pub polled_code : TaskPolled → ℕ
polled_code polls.Still = 6
polled_code polls.Granted = 7

abbrev pub gave_up_code : TaskGaveUp → ℕ
gave_up_code gives.Left = 14
gave_up_code gives.Coming = 15
gave_up_code gives.Granted = 7
gave_up_code gives.LimitReached = 104

-- a ticket was granted, and a seat woken if one waited with it
abbrev pub granted_code : Option ℕ → ℕ
granted_code None = 13
granted_code (Some seat) = 9

abbrev pub one_code : Option Notified → ℕ
one_code None = 8
one_code (Some n) = granted_code n.seat

abbrev pub refused_code : TaskRefused → ℕ
refused_code OtherCall = 101
refused_code Busy = 103

abbrev pub setup_code : SetupError → ℕ
setup_code setup.Seats = 111
setup_code setup.NoMemory = 114
