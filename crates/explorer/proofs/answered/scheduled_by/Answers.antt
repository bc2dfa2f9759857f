use Rattle.std.proofs.Common.{rules}
use Rattle.explorer.proofs.answered.scheduled_by.Goals as goal

pub returns-in-Err-clause-failed : goal.returns-in-Err-clause-failed
returns-in-Err-clause-failed g c = search rules

pub returns-clause-failed : goal.returns-clause-failed
returns-clause-failed g c = search rules
