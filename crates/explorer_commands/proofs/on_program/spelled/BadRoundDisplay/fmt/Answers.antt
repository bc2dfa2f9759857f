use Rattle.std.proofs.Common.{sym}
use Rattle.explorer_commands.proofs.on_program.spelled.BadRoundDisplay.fmt.Goals as goal

pub returns-clause-writes : goal.returns-clause-writes
returns-clause-writes g c = λ plain ok. rw (sym c.as_slice.ensures.value, sym c.as_slice-2.ensures.value) (c.write.ensures.writes plain ok)
