use Rattle.sync_parts.proofs.Turns.{the_locks}
use Rattle.sync_parts.proofs.laws.law_of_the_locks.Goals as goal

pub returns : goal.returns
returns c = the_locks
