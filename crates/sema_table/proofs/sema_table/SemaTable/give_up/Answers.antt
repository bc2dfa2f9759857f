use Rattle.sema_table.proofs.CallerTimed.{still_sleeps, woken, handed, left}
use Rattle.sema_table.proofs.sema_table.SemaTable.give_up.Goals as goal

pub returns-in-Left : goal.returns-in-Left
returns-in-Left g c s sleeps =
    c.take_or_go.ensures s (left s c.args.counter c.args.lifo c.args.sleeping sleeps c.in-Left.seat c.in-Left.ensures.caller)

pub returns-in-Woken : goal.returns-in-Woken
returns-in-Woken g c s sleeps =
    c.retry_or_go.ensures s (woken s c.args.counter c.args.lifo c.args.sleeping sleeps c.in-Woken.woken c.in-Woken.ensures.caller)

pub returns-in-Handed : goal.returns-in-Handed
returns-in-Handed g c s sleeps = handed s c.args.counter c.args.lifo c.args.sleeping sleeps c.in-Handed.seat c.in-Handed.ensures.caller

pub returns-in-Woken-sleep : goal.returns-in-Woken-sleep
returns-in-Woken-sleep g c s sleeps =
    let x = c.in-Coming.sleeping in
    let still = still_sleeps s c.args.counter c.args.lifo c.args.sleeping sleeps x c.in-Coming.ensures.caller.4 in
    c.retry_or_go-in-Woken-sleep.ensures s
    (woken s c.args.counter c.args.lifo x still c.in-Woken-sleep.woken c.in-Woken-sleep.ensures.caller)

pub returns-in-Handed-sleep : goal.returns-in-Handed-sleep
returns-in-Handed-sleep g c s sleeps =
    let x = c.in-Coming.sleeping in
    let still = still_sleeps s c.args.counter c.args.lifo c.args.sleeping sleeps x c.in-Coming.ensures.caller.4 in
    handed s c.args.counter c.args.lifo x still c.in-Handed-sleep.seat c.in-Handed-sleep.ensures.caller
