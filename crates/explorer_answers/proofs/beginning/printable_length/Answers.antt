use Rattle.std.proofs.Common.{sym}
use Rattle.explorer_answers.proofs.Beginnings.{nowhere}
use Rattle.explorer_answers.proofs.beginning.printable_length.Goals as goal

pub returns-in-None-clause-all : goal.returns-in-None-clause-all
returns-in-None-clause-all c = nowhere _ c.args.line.now (sym c.in-None.ensures)
