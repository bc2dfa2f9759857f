use Rattle.std.proofs.Common.{rules}
use Rattle.sema_table.proofs.CallerLeaves.{leaves, begins_or_not}
use Rattle.sema_table.proofs.sema_table.SemaTable.begin_leave.Goals as goal

pub returns-in-Ok-clause-rows : goal.returns-in-Ok-clause-rows
returns-in-Ok-clause-rows g c = search rules

pub returns-in-Ok-clause-caller : goal.returns-in-Ok-clause-caller
returns-in-Ok-clause-caller g c = begins_or_not c.args.sleeping c.go_to_leave.result (returns-in-Ok-clause-rows g c)

pub returns-in-Err-clause-caller : goal.returns-in-Err-clause-caller
returns-in-Err-clause-caller g c = leaves c.args.sleeping c.in-Err.gave_up c.in-Err.ensures.0
