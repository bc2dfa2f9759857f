-- What the refusals print.
use Rattle.std.specs.Prelude.{ℕ, List, ◌++◌, codes}
use Rattle.std.specs.Fmt.{decimal}
use Rattle.step_table.specs.declared.refusal.StepRefused.{StepRefused}
use Rattle.step_table.specs.declared.refusal.StepRefused.TheVariants.{NoSuchSeat, SeatEnded, LockHeld, Asleep}
use Rattle.step_table.specs.declared.refusal.StepRefused.TheVariants.{SeatFailed, NoMemory}
use Rattle.step_table.specs.declared.refusal.RunRefused.{RunRefused}
use Rattle.step_table.specs.declared.refusal.ScenarioRefused.{ScenarioRefused}
use Rattle.step_table.specs.declared.refusal.ScenarioRefused.TheVariants.{OutOfLimits, Undeclared, Ticket}

abbrev pub scenario_refused_text : ScenarioRefused → List ℕ
scenario_refused_text OutOfLimits = codes "out of limits"
scenario_refused_text Undeclared = codes "undeclared"
scenario_refused_text Ticket = codes "ticket"

abbrev pub step_refused_text : StepRefused → List ℕ
step_refused_text NoSuchSeat = codes "no such seat"
step_refused_text SeatEnded = codes "the seat has ended"
step_refused_text LockHeld = codes "the lock is held"
step_refused_text Asleep = codes "the seat is asleep"
step_refused_text SeatFailed = codes "the seat has failed"
step_refused_text NoMemory = codes "no memory"

-- the step's number, and the cause
abbrev pub run_refused_text : RunRefused → List ℕ
run_refused_text refused =
    codes "step " ++ decimal refused.at ++ codes ": " ++ step_refused_text refused.cause
