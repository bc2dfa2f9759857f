use Rattle.std.proofs.Common.{rules}
use Rattle.sema_table.proofs.CallerWakesMany.{releases_many}
use Rattle.sema_table.proofs.sema_table.SemaTable.release_many.Goals as goal

pub returns-in-Done-clause-rows : goal.returns-in-Done-clause-rows
returns-in-Done-clause-rows g c = search rules

pub returns-in-Done-clause-caller : goal.returns-in-Done-clause-caller
returns-in-Done-clause-caller g c = releases_many c.args.seat c.in-Done.seat c.args.counter c.args.units 0 (returns-in-Done-clause-rows g c)

pub returns-in-Owes-clause-rows : goal.returns-in-Owes-clause-rows
returns-in-Owes-clause-rows g c = search rules

pub returns-in-Owes-clause-caller : goal.returns-in-Owes-clause-caller
returns-in-Owes-clause-caller g c =
    releases_many c.args.seat c.wake_some.result.0 c.args.counter c.args.units c.wake_some.result.1 (returns-in-Owes-clause-rows g c)
