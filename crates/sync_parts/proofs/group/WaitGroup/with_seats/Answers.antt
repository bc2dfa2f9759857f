use Rattle.sync_parts.proofs.GroupStarting.{seats_own}
use Rattle.sync_parts.proofs.group.WaitGroup.with_seats.Goals as goal

pub returns-clause-own : goal.returns-clause-own
returns-clause-own c = seats_own _ _ _ c.in-Ok.ensures
