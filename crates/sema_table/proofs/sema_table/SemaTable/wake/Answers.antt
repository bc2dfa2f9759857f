use Rattle.std.proofs.Common.{rules}
use Rattle.sema_table.proofs.CallerWakes.{wakes}
use Rattle.sema_table.proofs.sema_table.SemaTable.wake.Goals as goal

pub returns-clause-rows : goal.returns-clause-rows
returns-clause-rows g c = (c.owing.inside.counter, search rules, search rules, search rules, search rules)

pub returns-clause-caller : goal.returns-clause-caller
returns-clause-caller g c = wakes c.args.owing c.wake_at_lock.result.0 c.args.handoff c.wake_at_lock.result.1 (returns-clause-rows g c)
