use Rattle.std.proofs.Common.{rules}
use Rattle.step_outcomes.proofs.release_many.outcome_of.Goals as goal

pub returns-in-M1-clause-does : goal.returns-in-M1-clause-does
returns-in-M1-clause-does c = search rules
