-- What trying a seat's step comes to.
use Rattle.std.specs.Prelude.{ℕ, ◌<◌, Option, Some, None}
use Rattle.std.specs.Prelude.{length}
use Rattle.program_machine.specs.Moment.{ProgramMoment, HasMoved, IsRefusedBy}
use Rattle.step_table.specs.declared.refusal.StepRefused.{StepRefused}

-- seat i, which is there, has made a step, or its step is refused by this
abbrev pub HasTried : ProgramMoment → ℕ → ProgramMoment → Option StepRefused → Type 0
HasTried m i n None = (i < length m.program.seats) × HasMoved m i n
HasTried m i n (Some cause) = IsRefusedBy cause m i
