-- What the reader of a lock program's text answers.
use Rattle.std.specs.Prelude.{⊤, ◌≡◌, ℕ, List, ◌⊎◌, Result, Ok, Err}
use Rattle.scenario_text.specs.Pieces.{Piece, pieces}
use Rattle.scenario_text.specs.Reader.{IsOnly, IsNone}
use Rattle.program_text.specs.declared.lines.SpelledLine.{SpelledLine}
use Rattle.program_text.specs.Answers as alone
use Rattle.program_text.specs.Causes.{IsFault as IsFaultAlone}
use Rattle.program_text.specs.declared.cause.ProgramCause.{ProgramCause}
use Rattle.program_text.specs.declared.cause.ProgramCause.TheVariants.{NoMemory}
use Rattle.program_text.specs.declared.fault.ProgramFault.{ProgramFault}
use Rattle.program.specs.declared.draft.ProgramDraft.{ProgramDraft}
use Rattle.program.specs.declared.named_program.NamedProgram.{NamedProgram}
use Rattle.program.specs.Drafts.{no_lines, next, finished}
use Rattle.program.specs.Text.{IsReadable, IsProgramOf, IsFaultOf, IsReached}

-- the answer is the expected one, unless memory was short
abbrev pub AnswersTo : {A : Type 0} → Result A ProgramCause → Result A ProgramCause → Type 0
AnswersTo expected (Err NoMemory) = ⊤
AnswersTo expected answer = answer ≡ expected

-- the line is right, and says nothing else
abbrev pub IsOnlyRight : ProgramDraft → ℕ → Piece → ProgramDraft → Type 0
IsOnlyRight d number p e = (line : SpelledLine) × alone.IsOnlyRight p line × (next d number line ≡ Ok e)

-- it is wrong, and says nothing else
abbrev pub IsOnlyFault : ProgramDraft → ℕ → Piece → ProgramCause → Type 0
IsOnlyFault d number p cause =
    IsFaultAlone p cause
    ⊎ ((line : SpelledLine) × alone.IsOnlyRight p line × (next d number line ≡ Err cause))

-- what the reader of one line answers
abbrev pub Judges : ProgramDraft → ℕ → Piece → Result ProgramDraft ProgramCause → Type 0
Judges d number p (Ok e) = IsOnlyRight d number p e
Judges d number p (Err NoMemory) = IsReadable p
Judges d number p (Err cause) = IsOnlyFault d number p cause

-- behind the last line memory may be short too
abbrev pub FinishesBy : ProgramDraft → ℕ → ProgramFault → ProgramCause → Type 0
FinishesBy d number fault NoMemory = fault.line ≡ number
FinishesBy d number fault cause = finished d number ≡ Err fault

abbrev pub Finishes : ProgramDraft → ℕ → Result NamedProgram ProgramFault → Type 0
Finishes d number (Ok program) = finished d number ≡ Ok program
Finishes d number (Err fault) = FinishesBy d number fault fault.cause

-- a fault is the text's one fault, and the text says no program; want of memory names a line that was reached
abbrev pub IsReadFaultBy : List ℕ → ProgramFault → ProgramCause → Type 0
IsReadFaultBy text fault NoMemory = IsReached no_lines 1 (pieces text) fault.line
IsReadFaultBy text fault cause = IsOnly (IsFaultOf text) fault × IsNone (IsProgramOf text)

abbrev pub IsReadFault : List ℕ → ProgramFault → Type 0
IsReadFault text fault = IsReadFaultBy text fault fault.cause
