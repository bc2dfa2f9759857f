-- The code of each answer of a table, and what the codes of a table and of a list share.
use Rattle.std.specs.Prelude.{◌≡◌, ◌⊎◌, ℕ, Result, Ok, Err}
use Rattle.sema_table.specs.declared.answers.Tried.{Tried}
use Rattle.sema_table.specs.declared.answers.Tried.TheVariants as tries
use Rattle.sema_table.specs.declared.answers.Wake.{Wake}
use Rattle.sema_table.specs.declared.answers.Wake.TheVariants as wakes
use Rattle.sema_table.specs.declared.setup_error.SetupError.{SetupError}
use Rattle.sema_table.specs.declared.setup_error.SetupError.TheVariants as setup
use Rattle.sema_table.specs.declared.task_answers.TaskEntered.{TaskEntered}
use Rattle.sema_table.specs.declared.task_answers.TaskEntered.TheVariants as enters
use Rattle.sema_table.specs.declared.task_answers.TaskGaveUp.{TaskGaveUp}
use Rattle.sema_table.specs.declared.task_answers.TaskGaveUp.TheVariants as gives
use Rattle.sema_table.specs.declared.task_answers.TaskPolled.{TaskPolled}
use Rattle.sema_table.specs.declared.task_answers.TaskPolled.TheVariants as polls
use Rattle.sema_table.specs.declared.task_answers.TaskPosted.{TaskPosted}
use Rattle.sema_table.specs.declared.task_answers.TaskPosted.TheVariants as posts
use Rattle.sema_table.specs.declared.task_answers.TaskRefused.{TaskRefused}
use Rattle.sema_table.specs.declared.task_answers.TaskRefused.TheVariants.{OtherCall, NoCounter}
use Rattle.sema_table.specs.declared.task_answers.TaskRefused.TheVariants.{Busy, LimitReached, Units}
use Rattle.sema_table.specs.declared.task_answers.TaskRetried.{TaskRetried}
use Rattle.sema_table.specs.declared.task_answers.TaskRetried.TheVariants as retries

abbrev pub tried_code : Tried → ℕ
tried_code tries.Taken = 1
tried_code tries.Zero = 2
tried_code tries.Lost = 3

abbrev pub entered_code : TaskEntered → ℕ
entered_code enters.Taken = 1
entered_code enters.Asleep = 6

abbrev pub polled_code : TaskPolled → ℕ
polled_code polls.Still = 6
polled_code polls.Woken = 7
polled_code polls.Handed = 10

abbrev pub gave_up_code : TaskGaveUp → ℕ
gave_up_code gives.Left = 14
gave_up_code gives.Coming = 15
gave_up_code gives.Woken = 7
gave_up_code gives.Handed = 10

abbrev pub retried_code : TaskRetried → ℕ
retried_code retries.Taken = 1
retried_code retries.Zero = 2

abbrev pub posted_code : TaskPosted → ℕ
posted_code posts.Done = 4
posted_code posts.Owes = 5

abbrev pub wake_code : Wake → ℕ
wake_code wakes.Nobody = 8
wake_code (wakes.One w) = 9
wake_code (wakes.Handed w) = 10

abbrev pub refused_code : TaskRefused → ℕ
refused_code OtherCall = 101
refused_code NoCounter = 102
refused_code Busy = 103
refused_code LimitReached = 104
refused_code Units = 106

abbrev pub setup_code : SetupError → ℕ
setup_code setup.Counters = 110
setup_code setup.Seats = 111
setup_code setup.Roots = 112
setup_code setup.ReleaseLimit = 113
setup_code setup.NoMemory = 114

-- of an answer that is told beside its code
abbrev pub told : {X : Type 0} → X → ℕ
told x = 0

-- of waits that were all woken
abbrev pub done : {X : Type 0} → X → ℕ
done x = 4

-- which codes say that something was told, that one seat was woken, with a unit or without, and that all were
abbrev pub IsOk : ℕ → Type 0
IsOk n = n ≡ 0

abbrev pub IsOne : ℕ → Type 0
IsOne n = n ≡ 9

abbrev pub IsOneOrHanded : ℕ → Type 0
IsOneOrHanded n = (n ≡ 9) ⊎ (n ≡ 10)

abbrev pub IsDone : ℕ → Type 0
IsDone n = n ≡ 4

-- of a call that is done, or was refused
abbrev pub code_of : {X R : Type 0} → (R → ℕ) → (X → ℕ) → Result X R → ℕ
code_of refused code (Ok x) = code x
code_of refused code (Err why) = refused why
