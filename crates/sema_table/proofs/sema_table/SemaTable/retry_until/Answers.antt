use Rattle.sema_table.proofs.CallerTimed.{taken, timed_out, enters, queues}
use Rattle.sema_table.proofs.sema_table.SemaTable.retry_until.Goals as goal

pub returns-in-Taken-clause-waits : goal.returns-in-Taken-clause-waits
returns-in-Taken-clause-waits g c s tries =
    taken s c.args.counter c.args.lifo c.args.woken tries c.in-Taken.seat c.in-Taken.ensures.caller

pub returns-then-is_zero-clause-waits : goal.returns-then-is_zero-clause-waits
returns-then-is_zero-clause-waits g c s tries =
    timed_out s c.args.counter c.args.lifo c.args.woken tries c.in-Zero.seat c.in-Zero.ensures.caller

pub returns-in-Taken-enter-clause-waits : goal.returns-in-Taken-enter-clause-waits
returns-in-Taken-enter-clause-waits g c s tries =
    enters s c.args.counter c.args.lifo c.args.woken tries c.in-Zero.seat c.in-Taken-enter.seat
    c.in-Zero.ensures.caller c.in-Taken-enter.ensures.caller

pub returns-in-Asleep-clause-waits : goal.returns-in-Asleep-clause-waits
returns-in-Asleep-clause-waits g c s tries =
    queues s c.args.counter c.args.lifo c.args.woken tries c.in-Zero.seat c.in-Asleep.again
    c.in-Zero.ensures.caller c.in-Asleep.ensures.caller
