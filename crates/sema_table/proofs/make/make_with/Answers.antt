use Rattle.sema_table.proofs.Making.{seats_own}
use Rattle.sema_table.proofs.make.make_with.Goals as goal

pub returns-in-Ok-clause-own : goal.returns-in-Ok-clause-own
returns-in-Ok-clause-own c = seats_own _ _ _ c.in-Ok.ensures
