use Rattle.sema_table.proofs.CallerTimed.{taken, timed_out}
use Rattle.sema_table.proofs.sema_table.SemaTable.retry_or_go.Goals as goal

pub returns-in-Taken : goal.returns-in-Taken
returns-in-Taken c s tries = taken s c.args._counter c.args._lifo c.args.woken tries c.in-Taken.seat c.in-Taken.ensures.caller

pub returns-in-Zero : goal.returns-in-Zero
returns-in-Zero c s tries = timed_out s c.args._counter c.args._lifo c.args.woken tries c.in-Zero.seat c.in-Zero.ensures.caller
