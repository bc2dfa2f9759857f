-- A lock program's text: the program that it says, or its fault.
use Rattle.std.specs.Prelude.{◌≡◌, ℕ, ◌+◌, List, [], ◌∷◌, length, ◌⊎◌, Result, Ok, Err}
use Rattle.scenario_text.specs.Pieces.{Piece, pieces}
use Rattle.program_text.specs.declared.lines.SpelledLine.{SpelledLine}
use Rattle.program_text.specs.Causes as alone
use Rattle.program_text.specs.Text.{AreLinesOf}
use Rattle.program_text.specs.declared.cause.ProgramCause.{ProgramCause}
use Rattle.program_text.specs.declared.fault.ProgramFault.{ProgramFault}
use Rattle.program.specs.declared.draft.ProgramDraft.{ProgramDraft}
use Rattle.program.specs.declared.named_program.NamedProgram.{NamedProgram}
use Rattle.program.specs.Causes.{and_then}
use Rattle.program.specs.Drafts.{no_lines, next, finished}

-- ---- a text that is well formed

-- the draft with these lines more, the first of which has this number
abbrev pub with_lines : ProgramDraft → ℕ → List SpelledLine → Result ProgramDraft ProgramCause
with_lines d number [] = Ok d
with_lines d number (line ∷ lines) = and_then (next d number line) (λ e. with_lines e (number + 1) lines)

-- the text has lines, and put together they say the program
pub record IsProgramOf (text : List ℕ) (program : NamedProgram) : Type 0 where
  pub lines : List SpelledLine
  pub draft : ProgramDraft
  pub are_lines : AreLinesOf text lines
  pub together : with_lines no_lines 1 lines ≡ Ok draft
  pub ends : finished draft (length lines + 1) ≡ Ok program

-- ---- a text that is not

-- the line says something by itself, and behind those before it makes this of them
abbrev pub IsRight : ProgramDraft → ℕ → Piece → ProgramDraft → Type 0
IsRight d number p e = (line : SpelledLine) × alone.IsRight p line × (next d number line ≡ Ok e)

-- it is wrong by itself, or else behind those before it
abbrev pub IsFault : ProgramDraft → ℕ → Piece → ProgramCause → Type 0
IsFault d number p cause =
    alone.IsFault p cause
    ⊎ ((line : SpelledLine) × alone.IsRight p line × (next d number line ≡ Err cause))

abbrev pub IsReadable : Piece → Type 0
IsReadable p = alone.IsReadable p

-- the first line that is faulty, behind those of a draft, and what is wrong with it; behind the last line,
-- what is wrong with all of them
abbrev pub IsFirstFault : ProgramDraft → ℕ → List Piece → ProgramFault → Type 0
IsFirstFault d number [] fault = finished d number ≡ Err fault
IsFirstFault d number (p ∷ ps) fault =
    ((fault.line ≡ number) × IsFault d number p fault.cause)
    ⊎ ((e : ProgramDraft) × IsRight d number p e × IsFirstFault e (number + 1) ps fault)

abbrev pub IsFaultOf : List ℕ → ProgramFault → Type 0
IsFaultOf text fault = IsFirstFault no_lines 1 (pieces text) fault

-- there is a line of this number, which is neither cut nor unprintable, or it is that behind the last, and
-- the lines before it are right
abbrev pub IsReached : ProgramDraft → ℕ → List Piece → ℕ → Type 0
IsReached d number [] n = n ≡ number
IsReached d number (p ∷ ps) n =
    ((n ≡ number) × IsReadable p)
    ⊎ ((e : ProgramDraft) × IsRight d number p e × IsReached e (number + 1) ps n)
