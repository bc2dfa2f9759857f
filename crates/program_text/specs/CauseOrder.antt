-- Which of two causes is the lesser.
use Rattle.std.specs.Prelude.{ℕ, nat_lt, cond}
use Rattle.program_text.specs.declared.cause.ProgramCause.{ProgramCause}
use Rattle.program_text.specs.declared.cause.ProgramCause.TheVariants.{Cut, Byte, Form, Place, Range, TooMany}
use Rattle.program_text.specs.declared.cause.ProgramCause.TheVariants.{Undeclared, Twice, Array, Label, End}
use Rattle.program_text.specs.declared.cause.ProgramCause.TheVariants.{NoMemory}

abbrev pub number : ProgramCause → ℕ
number Cut = 1
number Byte = 2
number Form = 3
number Place = 4
number Range = 5
number TooMany = 6
number Undeclared = 7
number Twice = 8
number Array = 9
number Label = 10
number End = 11
number NoMemory = 12

abbrev pub least : ProgramCause → ProgramCause → ProgramCause
least c d = cond (nat_lt (number d) (number c)) d c
