use Rattle.std.proofs.Common.{rules}
use Rattle.step_outcomes.proofs.list_rows.one_outcome.Goals as goal

pub returns-in-O7 : goal.returns-in-O7
returns-in-O7 c = search rules

pub returns-in-None : goal.returns-in-None
returns-in-None c = search rules

pub returns-in-Some : goal.returns-in-Some
returns-in-Some c = search rules
