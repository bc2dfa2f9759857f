use Rattle.std.proofs.Common.{rules}
use Rattle.step_outcomes.proofs.list_rows.all_outcome.Goals as goal

pub returns-in-L5 : goal.returns-in-L5
returns-in-L5 c = search rules
