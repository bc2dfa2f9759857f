use Rattle.std.proofs.Common.{rules}
use Rattle.sema_table.proofs.CallerLeaves.{leaves}
use Rattle.sema_table.proofs.sema_table.SemaTable.leave.Goals as goal

pub returns-in-Ok-clause-rows : goal.returns-in-Ok-clause-rows
returns-in-Ok-clause-rows g c = search rules

pub returns-in-Ok-clause-caller : goal.returns-in-Ok-clause-caller
returns-in-Ok-clause-caller g c = leaves c.args.sleeping c.leave_at_lock.result (returns-in-Ok-clause-rows g c)

pub returns-in-Err-clause-caller : goal.returns-in-Err-clause-caller
returns-in-Err-clause-caller g c = leaves c.args.sleeping c.in-Err.gave_up c.in-Err.ensures.0
