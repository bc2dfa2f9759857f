use Rattle.std.proofs.Common.{take}
use Rattle.std.specs.Fmt.{HasWritten, IsPlainFormatter}
use Rattle.explorer_commands.specs.OutlookTexts.{sections_text}
use Rattle.explorer_commands.proofs.on_program.spelled.OfSectionsDisplay.fmt.Given as goal

-- what is told of the sections so far is written
abbrev pub invariant-loop-told : goal.invariant-loop-told
invariant-loop-told g l =
    IsPlainFormatter l.fn.f → HasWritten g.W.Write.write_str_gives l.fn.f (sections_text l.self.names.now (take l.told-index l.self.all.now)) l.f
