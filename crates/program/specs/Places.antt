-- Where a line may stand.
use Rattle.std.specs.Prelude.{Bool, true, false}
use Rattle.program_text.specs.declared.lines.SpelledLine.{SpelledLine}
use Rattle.program_text.specs.declared.lines.SpelledLine.TheVariants.{Blank, Const, Word, Counter}
use Rattle.program_text.specs.declared.lines.SpelledLine.TheVariants.{List as NotifyList, Registers, Section}
use Rattle.program_text.specs.declared.lines.SpelledLine.TheVariants.{Program, Seats, Most, Apart, Passed, Finally}
use Rattle.program.specs.declared.stage.Stage.{Stage}
use Rattle.program.specs.declared.stage.Stage.TheVariants as stage
use Rattle.program.specs.declared.stage.LineGroup.{LineGroup}
use Rattle.program.specs.declared.stage.LineGroup.TheVariants as group

abbrev pub group_of : SpelledLine → LineGroup
group_of Blank = group.Blank
group_of (Const name v) = group.Declaration
group_of (Word w v) = group.Declaration
group_of (Counter c v) = group.Declaration
group_of (NotifyList name) = group.Declaration
group_of (Registers names) = group.Declaration
group_of (Section name) = group.Declaration
group_of (Program name) = group.Program
group_of (Seats k name) = group.Seats
group_of (Most s n) = group.Property
group_of (Apart s t) = group.Property
group_of (Passed s n) = group.Property
group_of (Finally w r v) = group.Property
group_of line = group.Statement

-- behind the lines of a stage
abbrev pub may_stand : Stage → LineGroup → Bool
may_stand behind group.Blank = true
may_stand stage.Declarations group.Declaration = true
may_stand stage.Declarations group.Program = true
may_stand stage.Programs group.Program = true
may_stand stage.Programs group.Statement = true
may_stand stage.Programs group.Seats = true
may_stand stage.Seats group.Seats = true
may_stand stage.Seats group.Property = true
may_stand stage.Properties group.Property = true
may_stand behind line = false

abbrev pub stage_after : Stage → LineGroup → Stage
stage_after behind group.Blank = behind
stage_after behind group.Declaration = stage.Declarations
stage_after behind group.Program = stage.Programs
stage_after behind group.Statement = stage.Programs
stage_after behind group.Seats = stage.Seats
stage_after behind group.Property = stage.Properties
