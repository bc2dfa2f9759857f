use Rattle.std.proofs.Common.{rules}
use Rattle.step_outcomes.proofs.release.outcome_of.Goals as goal

pub returns-in_default-clause-does : goal.returns-in_default-clause-does
returns-in_default-clause-does c = search rules

pub returns-in-R10-clause-does : goal.returns-in-R10-clause-does
returns-in-R10-clause-does c = search rules

pub returns-in-Some-in_hand-clause-does : goal.returns-in-Some-in_hand-clause-does
returns-in-Some-in_hand-clause-does c = search rules

pub returns-in-0-clause-does : goal.returns-in-0-clause-does
returns-in-0-clause-does c = search rules

pub returns-in-0-found-clause-does : goal.returns-in-0-found-clause-does
returns-in-0-found-clause-does c = search rules

pub returns-in-R8-clause-does : goal.returns-in-R8-clause-does
returns-in-R8-clause-does c = search rules

pub returns-in-Some-clause-does : goal.returns-in-Some-clause-does
returns-in-Some-clause-does c = search rules
