use Rattle.std.proofs.Common.{rules}
use Rattle.waiters.proofs.wait.WaitIdDisplay.fmt.Goals as goal

pub returns-clause-writes : goal.returns-clause-writes
returns-clause-writes g c = search rules
