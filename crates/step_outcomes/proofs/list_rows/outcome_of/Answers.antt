use Rattle.std.proofs.Common.{rules}
use Rattle.step_outcomes.proofs.list_rows.outcome_of.Goals as goal

pub returns-in-Adding : goal.returns-in-Adding
returns-in-Adding c = search rules
