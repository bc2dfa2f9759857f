-- What the lines that were read so far declare and say.
use Rattle.std.specs.Prelude.{ℕ, cond, List, [], ◌∷◌, ◌++◌, length, replicate, Option, Some, None, Result, Ok}
use Rattle.std.specs.Prelude.{Err}
use Rattle.std.specs.Option.{unwrap_or}
use Rattle.program_text.specs.declared.lines.SpelledLine.{SpelledLine}
use Rattle.program_text.specs.declared.cause.ProgramCause.{ProgramCause}
use Rattle.program_text.specs.declared.cause.ProgramCause.TheVariants.{Place as Misplaced, TooMany, Twice}
use Rattle.program_text.specs.declared.cause.ProgramCause.TheVariants.{Label as Unlabelled, End}
use Rattle.program_text.specs.declared.fault.ProgramFault.{ProgramFault}
use Rattle.program.specs.declared.named_program.NamedProgram.{NamedProgram}
use Rattle.program.specs.declared.names.Cells.{Cells}
use Rattle.program.specs.declared.names.DeclaredNames.{DeclaredNames}
use Rattle.program.specs.declared.stage.Stage.{Stage}
use Rattle.program.specs.declared.stage.Stage.TheVariants as stage
use Rattle.program.specs.declared.stage.LineGroup.{LineGroup}
use Rattle.program.specs.declared.stage.LineGroup.TheVariants as group
use Rattle.program.specs.declared.meant.Meant.{Meant}
use Rattle.program.specs.declared.meant.Meant.TheVariants as meant
use Rattle.program.specs.declared.draft.ProgramDraft.{ProgramDraft}
use Rattle.program.specs.Causes.{map_ok, too_if}
use Rattle.program.specs.Codes.{first_lost, code_of}
use Rattle.program.specs.Places.{group_of, may_stand, stage_after}
use Rattle.program.specs.Limits.{is_too_many, is_again}
use Rattle.program.specs.Meanings.{meant_of}

abbrev pub first_of : Option ℕ → Option ℕ → Option ℕ
first_of None later = later
first_of (Some line) later = Some line

-- the lines of the program that is open have ended
abbrev pub closed : ProgramDraft → ProgramDraft
closed d =
    record d {
      codes = d.codes ++ (code_of d.codes d.body ∷ []);
      body = [];
      lost = first_of d.lost (first_lost d.body d.body);
    }

-- behind a program's lines the next program, or seats, end it
abbrev pub closed_by : Stage → LineGroup → ProgramDraft → ProgramDraft
closed_by stage.Programs group.Program d = closed d
closed_by stage.Programs group.Seats d = closed d
closed_by behind line d = d

abbrev pub one_cells : List ℕ → ℕ → Option ℕ → Cells
one_cells name first length = record { name = name; span = record { first = first; length = length } }

-- what the line of this number adds, that means this
abbrev pub with_meant : ProgramDraft → ℕ → Meant → ProgramDraft
with_meant d line meant.Nothing = d
with_meant d line (meant.Constant name v) =
    record d {
      names = record d.names { constants = d.names.constants ++ (record { name = name; value = v } ∷ []) };
    }
with_meant d line (meant.Words name members v) =
    record d {
      names = record d.names { words = d.names.words ++ (one_cells name (length d.words) members ∷ []) };
      words = d.words ++ replicate (unwrap_or members 1) v;
    }
with_meant d line (meant.Counters name members v) =
    record d {
      names =
          record d.names { counters = d.names.counters ++ (one_cells name (length d.counters) members ∷ []) };
      counters = d.counters ++ replicate (unwrap_or members 1) v;
    }
with_meant d line (meant.List name) =
    record d { names = record d.names { lists = d.names.lists ++ (name ∷ []) } }
with_meant d line (meant.Registers names) =
    record d { names = record d.names { registers = d.names.registers ++ names } }
with_meant d line (meant.Section name) =
    record d { names = record d.names { sections = d.names.sections ++ (name ∷ []) } }
with_meant d line (meant.Program name) =
    record d { names = record d.names { programs = d.names.programs ++ (name ∷ []) } }
with_meant d line (meant.Seats count program) =
    record d { seats = d.seats ++ replicate count program }
with_meant d line (meant.Property p) =
    record d { properties = d.properties ++ (record { line = line; property = p } ∷ []) }
with_meant d line (meant.Statement s) =
    record d { body = d.body ++ (record { line = line; statement = s } ∷ []) }

abbrev pub at_stage : ProgramDraft → Stage → ProgramDraft
at_stage d behind = record d { stage = behind }

-- what a line of this group makes, that means this
abbrev pub made_of : ProgramDraft → ℕ → LineGroup → Meant → ProgramDraft
made_of d number k m = at_stage (with_meant (closed_by d.stage k d) number m) (stage_after d.stage k)

-- the draft with the line of this number more, or the least of what is wrong with the line
abbrev pub next : ProgramDraft → ℕ → SpelledLine → Result ProgramDraft ProgramCause
next d number line =
    cond (may_stand d.stage (group_of line))
    (map_ok (λ m. made_of d number (group_of line) m)
    (too_if (is_too_many d line) TooMany
    (too_if (is_again d line) Twice (meant_of d.names (length d.codes) line))))
    (Err Misplaced)

-- ---- the end

abbrev pub no_names : DeclaredNames
no_names = record {
  constants = [];
  words = [];
  counters = [];
  lists = [];
  registers = [];
  sections = [];
  programs = [];
}

abbrev pub no_lines : ProgramDraft
no_lines = record {
  stage = stage.Declarations;
  names = no_names;
  words = [];
  counters = [];
  codes = [];
  body = [];
  lost = None;
  seats = [];
  properties = [];
}

-- what the lines say together
abbrev pub program_said : ProgramDraft → NamedProgram
program_said d = record {
  names = d.names;
  program =
      record {
        words = d.words;
        counters = d.counters;
        lists = length d.names.lists;
        registers = length d.names.registers;
        sections = length d.names.sections;
        codes = d.codes;
        seats = d.seats;
        properties = d.properties;
      };
}

-- behind the last line, whose number is one less: a jump to no label, or no seats, are told now
abbrev pub end_of : ProgramDraft → ℕ → Option ℕ → List ℕ → Result NamedProgram ProgramFault
end_of d number (Some line) seats = Err (record { line = line; cause = Unlabelled })
end_of d number None [] = Err (record { line = number; cause = End })
end_of d number None (seat ∷ seats) = Ok (program_said d)

abbrev pub finished : ProgramDraft → ℕ → Result NamedProgram ProgramFault
finished d number = let e = closed_by d.stage group.Seats d in end_of e number e.lost e.seats
