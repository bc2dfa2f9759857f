use Rattle.std.proofs.Common.{rules}
use Rattle.step_rows.proofs.step.refused_by.Goals as goal

pub returns-in-Lock : goal.returns-in-Lock
returns-in-Lock c = search rules
