use Rattle.std.proofs.Common.{rules}
use Rattle.sema_table.specs.Waking.{acquire_of}
use Rattle.sema_table.proofs.CallerEnters.{enters}
use Rattle.sema_table.proofs.sema_table.SemaTable.enter.Goals as goal

pub returns-clause-rows : goal.returns-clause-rows
returns-clause-rows g c = search rules

pub returns-clause-caller : goal.returns-clause-caller
returns-clause-caller g c = enters c.args.seat (acquire_of c.args.counter c.args.lifo) c.enter_at_lock.result (returns-clause-rows g c)
