use Rattle.std.proofs.Common.{rules}
use Rattle.sema_table.proofs.CallerWakesMany.{wakes_some}
use Rattle.sema_table.proofs.sema_table.SemaTable.wake_some.Goals as goal

pub returns-clause-rows : goal.returns-clause-rows
returns-clause-rows g c = search rules

pub returns-clause-caller : goal.returns-clause-caller
returns-clause-caller g c = wakes_some c.args.owing c.wake_some_at_lock.result.0 c.wake_some_at_lock.result.1 (returns-clause-rows g c)
