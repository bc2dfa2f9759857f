-- What a line means, or which of the causes 5, 7 and 9 is the least that holds of its parts.
use Rattle.std.specs.Prelude.{ℕ, ℤ, List}
use Rattle.std.specs.Prelude.{Option, Some, None, Result, Ok, Err}
use Rattle.program_text.specs.declared.words.SpelledOperand.{SpelledOperand}
use Rattle.program_text.specs.declared.words.SpelledPlace.{SpelledPlace}
use Rattle.program_text.specs.declared.lines.SpelledLine.{SpelledLine}
use Rattle.program_text.specs.declared.lines.SpelledLine.TheVariants.{Blank, Const, Word, Counter}
use Rattle.program_text.specs.declared.lines.SpelledLine.TheVariants.{List as NotifyList, Registers, Section}
use Rattle.program_text.specs.declared.lines.SpelledLine.TheVariants.{Program, Seats, Most, Apart, Passed, Finally}
use Rattle.program_code.specs.declared.program.ProgramProperty.{ProgramProperty}
use Rattle.program_code.specs.declared.program.ProgramProperty.TheVariants as property
use Rattle.program_code.specs.declared.relation.Relation.{Relation}
use Rattle.program_text.specs.declared.cause.ProgramCause.{ProgramCause}
use Rattle.program_text.specs.declared.cause.ProgramCause.TheVariants.{Place as Misplaced}
use Rattle.program.specs.declared.names.CellSpan.{CellSpan}
use Rattle.program.specs.declared.names.DeclaredNames.{DeclaredNames}
use Rattle.program.specs.declared.meant.Meant.{Meant}
use Rattle.program.specs.declared.meant.Meant.TheVariants as meant
use Rattle.program.specs.Causes.{both, map_ok}
use Rattle.program.specs.Names.{declared, span_of}
use Rattle.program.specs.Parts.{number_of, count_of, passes_of, some_of, length_of, fixed_of, start_of}
use Rattle.program.specs.Parts.{section_of, program_of, fixed_place}
use Rattle.program.specs.Statements.{statement_of}

-- what a property may speak of: a word or a counter
abbrev pub word_or : Option CellSpan → Result CellSpan ProgramCause → Result CellSpan ProgramCause
word_or (Some word) counter = Ok word
word_or None counter = counter

abbrev pub shared_of : DeclaredNames → List ℕ → Result CellSpan ProgramCause
shared_of names name = word_or (span_of names.words name) (declared (span_of names.counters name))

abbrev pub finally_on : Option CellSpan → ℕ → Relation → ℤ → ProgramProperty
finally_on (Some word) number r v = property.FinallyWord number r v
finally_on None number r v = property.FinallyCounter number r v

abbrev pub finally_of :
    DeclaredNames → SpelledPlace → Relation → SpelledOperand → Result ProgramProperty ProgramCause
finally_of names w r v =
    map_ok (λ x. finally_on (span_of names.words w.name) x.0 r x.1)
    (both (fixed_place names (shared_of names w.name) w.index) (fixed_of names v))

abbrev pub property_of : DeclaredNames → SpelledLine → Result ProgramProperty ProgramCause
property_of names (Most s n) = map_ok (λ x. property.Most x.0 x.1) (both (section_of names s) (count_of n))
property_of names (Apart s t) =
    map_ok (λ x. property.Apart x.0 x.1) (both (section_of names s) (section_of names t))
property_of names (Passed s n) =
    map_ok (λ x. property.Passed x.0 x.1) (both (section_of names s) (passes_of n))
property_of names (Finally w r v) = finally_of names w r v
property_of names line = Err Misplaced

-- what a line means, where so many programs have ended
abbrev pub meant_of : DeclaredNames → ℕ → SpelledLine → Result Meant ProgramCause
meant_of names ended Blank = Ok meant.Nothing
meant_of names ended (Const name v) = map_ok (λ z. meant.Constant name z) (number_of v)
meant_of names ended (Word w v) =
    map_ok (λ x. meant.Words w.name x.0 x.1) (both (length_of w.index) (fixed_of names v))
meant_of names ended (Counter c v) =
    map_ok (λ x. meant.Counters c.name x.0 x.1) (both (length_of c.index) (start_of names v))
meant_of names ended (NotifyList name) = Ok (meant.List name)
meant_of names ended (Registers xs) = Ok (meant.Registers xs)
meant_of names ended (Section name) = Ok (meant.Section name)
meant_of names ended (Program name) = Ok (meant.Program name)
meant_of names ended (Seats k name) =
    map_ok (λ x. meant.Seats x.0 x.1) (both (some_of k) (program_of names name))
meant_of names ended (Most s n) = map_ok meant.Property (property_of names (Most s n))
meant_of names ended (Apart s t) = map_ok meant.Property (property_of names (Apart s t))
meant_of names ended (Passed s n) = map_ok meant.Property (property_of names (Passed s n))
meant_of names ended (Finally w r v) = map_ok meant.Property (property_of names (Finally w r v))
meant_of names ended line = map_ok meant.Statement (statement_of names ended line)
