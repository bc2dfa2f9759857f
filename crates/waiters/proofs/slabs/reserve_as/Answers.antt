use Rattle.std.proofs.Common.{rules}
use Rattle.waiters.proofs.slabs.reserve_as.Goals as goal

pub returns-clause-fits : goal.returns-clause-fits
returns-clause-fits g c = search rules
