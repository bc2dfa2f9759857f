use Rattle.sema_table.specs.declared.answers.Acquired.TheVariants.{Taken}
use Rattle.sema_table.proofs.CallerTimed.{untimed, same_table}
use Rattle.sema_table.proofs.sema_table.SemaTable.acquire_for.Goals as goal

pub returns-in-None-clause-caller : goal.returns-in-None-clause-caller
returns-in-None-clause-caller g c = untimed c.args.seat c.acquire.result c.args.counter c.args.lifo c.acquire.ensures.caller

pub returns-in-None-clause-own : goal.returns-in-None-clause-own
returns-in-None-clause-own g c =
    same_table c.args.seat c.args.counter c.args.lifo (Taken c.acquire.result) (returns-in-None-clause-caller g c)
