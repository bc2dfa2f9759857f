-- What there is too much of, and what is declared again.
use Rattle.std.specs.Prelude.{ℕ, ◌-◌, nat_lt, Bool, false, ◌||◌, List, length, Option, Some, Result, Ok, Err}
use Rattle.program_text.specs.declared.words.Number.TheVariants.{Plus}
use Rattle.program_text.specs.declared.words.Number.{Number}
use Rattle.program_text.specs.declared.words.SpelledOperand.{SpelledOperand}
use Rattle.program_text.specs.declared.words.SpelledOperand.TheVariants as text
use Rattle.program_text.specs.declared.lines.SpelledLine.{SpelledLine}
use Rattle.program_text.specs.declared.lines.SpelledLine.TheVariants.{Blank, Const, Word, Counter}
use Rattle.program_text.specs.declared.lines.SpelledLine.TheVariants.{List as NotifyList, Registers, Section}
use Rattle.program_text.specs.declared.lines.SpelledLine.TheVariants.{Program, Seats, Most, Apart, Passed, Finally}
use Rattle.program_text.specs.declared.lines.SpelledLine.TheVariants.{Label, Do}
use Rattle.program_code.specs.declared.program.CodeLine.{CodeLine}
use Rattle.program_text.specs.declared.cause.ProgramCause.{ProgramCause}
use Rattle.program.specs.declared.draft.ProgramDraft.{ProgramDraft}
use Rattle.program.specs.Names.{is_declared, is_any_again}
use Rattle.program.specs.Parts.{program_of}
use Rattle.program.specs.Codes.{code_at, size_of, has_label}

-- ---- 6: one too many, or too many

-- more than are left of so many
abbrev pub is_over : ℕ → ℕ → ℕ → Bool
is_over most used more = nat_lt (most - used) more

-- a word or a counter, or the members of an array
abbrev pub cells_asked : Option SpelledOperand → ℕ
cells_asked (Some (text.Number (Plus n))) = n
cells_asked index = 1

abbrev pub seats_asked : Number → ℕ
seats_asked (Plus n) = n
seats_asked number = 0

abbrev pub lines_at : List (List CodeLine) → Result ℕ ProgramCause → ℕ
lines_at codes (Ok number) = length (code_at codes number)
lines_at codes (Err cause) = 0

-- how many lines a program has, when it is done
abbrev pub lines_done : ProgramDraft → List ℕ → ℕ
lines_done d name = lines_at d.codes (program_of d.names name)

-- how many lines a line of a program makes
abbrev pub lines_asked : ProgramDraft → SpelledLine → ℕ
lines_asked d (Label name) = 0
lines_asked d (Do name) = lines_done d name
lines_asked d line = 1

abbrev pub is_too_long : ProgramDraft → SpelledLine → Bool
is_too_long d line =
    is_over 128 (length d.body) 1 || is_over 255 (size_of d.codes d.body) (lines_asked d line)

abbrev pub is_too_many : ProgramDraft → SpelledLine → Bool
is_too_many d Blank = false
is_too_many d (Const name v) = is_over 32 (length d.names.constants) 1
is_too_many d (Word w v) = is_over 32 (length d.words) (cells_asked w.index)
is_too_many d (Counter c v) = is_over 16 (length d.counters) (cells_asked c.index)
is_too_many d (NotifyList name) = is_over 4 (length d.names.lists) 1
is_too_many d (Registers names) = is_over 8 (length d.names.registers) (length names)
is_too_many d (Section name) = is_over 8 (length d.names.sections) 1
is_too_many d (Program name) = is_over 16 (length d.names.programs) 1
is_too_many d (Seats k name) = is_over 16 (length d.seats) (seats_asked k)
is_too_many d (Most s n) = is_over 16 (length d.properties) 1
is_too_many d (Apart s t) = is_over 16 (length d.properties) 1
is_too_many d (Passed s n) = is_over 16 (length d.properties) 1
is_too_many d (Finally w r v) = is_over 16 (length d.properties) 1
is_too_many d line = is_too_long d line

-- ---- 8: a name or a label that is declared again

abbrev pub is_again : ProgramDraft → SpelledLine → Bool
is_again d (Const name v) = is_declared d.names name
is_again d (Word w v) = is_declared d.names w.name
is_again d (Counter c v) = is_declared d.names c.name
is_again d (NotifyList name) = is_declared d.names name
is_again d (Registers names) = is_any_again d.names names
is_again d (Section name) = is_declared d.names name
is_again d (Program name) = is_declared d.names name
is_again d (Label name) = has_label d.body name
is_again d line = false
