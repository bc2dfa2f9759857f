use Rattle.std.proofs.Common.{rules}
use Rattle.sema_table.specs.declared.answers.Wake.TheVariants.{Nobody}
use Rattle.sema_table.proofs.CallerWakes.{releases}
use Rattle.sema_table.proofs.sema_table.SemaTable.release.Goals as goal

pub returns-in-Done-clause-rows : goal.returns-in-Done-clause-rows
returns-in-Done-clause-rows g c = search rules

pub returns-in-Done-clause-caller : goal.returns-in-Done-clause-caller
returns-in-Done-clause-caller g c = releases c.args.seat c.in-Done.seat c.args.counter c.args.handoff Nobody (returns-in-Done-clause-rows g c)

pub returns-in-Owes-clause-rows : goal.returns-in-Owes-clause-rows
returns-in-Owes-clause-rows g c = search rules

pub returns-in-Owes-clause-caller : goal.returns-in-Owes-clause-caller
returns-in-Owes-clause-caller g c = releases c.args.seat c.wake.result.0 c.args.counter c.args.handoff c.wake.result.1 (returns-in-Owes-clause-rows g c)
