use Rattle.std.proofs.Common.{rules}
use Rattle.step_outcomes.proofs.list_rows.wait_outcome.Goals as goal

pub returns-in-W2-2 : goal.returns-in-W2-2
returns-in-W2-2 c = search rules
