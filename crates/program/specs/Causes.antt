-- Which of several causes is told: the least.
use Rattle.std.specs.Prelude.{Bool, cond, Result, Ok, Err}
use Rattle.program_text.specs.declared.cause.ProgramCause.{ProgramCause}
use Rattle.program_text.specs.CauseOrder.{least}

-- both, or the least of what is wrong with them
abbrev pub both : {A B : Type 0} → Result A ProgramCause → Result B ProgramCause → Result (A × B) ProgramCause
both (Ok a) (Ok b) = Ok (a, b)
both (Ok a) (Err d) = Err d
both (Err c) (Ok b) = Err c
both (Err c) (Err d) = Err (least c d)

abbrev pub map_ok : {A B : Type 0} → (A → B) → Result A ProgramCause → Result B ProgramCause
map_ok f (Ok a) = Ok (f a)
map_ok f (Err c) = Err c

abbrev pub and_then :
    {A B : Type 0} → Result A ProgramCause → (A → Result B ProgramCause) → Result B ProgramCause
and_then (Ok a) f = f a
and_then (Err c) f = Err c

-- the cause holds too
abbrev pub too : {A : Type 0} → ProgramCause → Result A ProgramCause → Result A ProgramCause
too c (Ok a) = Err c
too c (Err d) = Err (least c d)

-- it holds too if the test does
abbrev pub too_if : {A : Type 0} → Bool → ProgramCause → Result A ProgramCause → Result A ProgramCause
too_if test c r = cond test (too c r) r
