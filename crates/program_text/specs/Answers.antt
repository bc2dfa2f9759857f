-- What the reader of a lock program's text answers.
use Rattle.std.specs.Prelude.{◌≡◌, ℕ, List, [], ◌∷◌, ◌++◌, Result, Ok, Err}
use Rattle.scenario_text.specs.Pieces.{Piece, pieces}
use Rattle.scenario_text.specs.Reader.{IsOnly, IsNone}
use Rattle.program_text.specs.declared.cause.ProgramCause.{ProgramCause}
use Rattle.program_text.specs.declared.cause.ProgramCause.TheVariants.{NoMemory}
use Rattle.program_text.specs.declared.fault.ProgramFault.{ProgramFault}
use Rattle.program_text.specs.declared.lines.SpelledLine.{SpelledLine}
use Rattle.program_text.specs.Lines.{Says}
use Rattle.program_text.specs.Causes.{IsFault, IsReadable, IsRight}
use Rattle.program_text.specs.Text.{AreLinesOf, IsFaultOf, IsReached}

-- the line is right, and says nothing else
abbrev pub IsOnlyRight : Piece → SpelledLine → Type 0
IsOnlyRight p line = IsRight p line × IsOnly (Says p.text) line

-- what the reader of one line answers
abbrev pub Judges : Piece → Result SpelledLine ProgramCause → Type 0
Judges p (Ok line) = IsOnlyRight p line
Judges p (Err NoMemory) = IsReadable p
Judges p (Err cause) = IsFault p cause

-- the second lines are the first with what the line says behind them
abbrev pub IsWithLine : Piece → List SpelledLine → List SpelledLine → Type 0
IsWithLine p before after = (line : SpelledLine) × (after ≡ before ++ (line ∷ [])) × IsOnlyRight p line

-- a fault is the text's one fault, and the text has no lines; want of memory names a line that was reached
abbrev pub IsReadFaultBy : List ℕ → ProgramFault → ProgramCause → Type 0
IsReadFaultBy text fault NoMemory = IsReached [] (pieces text) fault.line
IsReadFaultBy text fault cause = IsOnly (IsFaultOf text) fault × IsNone (AreLinesOf text)

abbrev pub IsReadFault : List ℕ → ProgramFault → Type 0
IsReadFault text fault = IsReadFaultBy text fault fault.cause
