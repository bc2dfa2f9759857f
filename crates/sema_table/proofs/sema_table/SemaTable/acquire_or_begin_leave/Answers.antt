use Rattle.std.proofs.Common.{inl}
use Rattle.sema_table.proofs.CallerAcquires.{takes_at_once, finds_none}
use Rattle.sema_table.proofs.CallerTimed.{enters_first, queues_first, then_holds}
use Rattle.sema_table.proofs.sema_table.SemaTable.acquire_or_begin_leave.Goals as goal

pub returns-then-take_at_once : goal.returns-then-take_at_once
returns-then-take_at_once g d = inl (takes_at_once d.args.seat d.take_at_once.new.seat d.args.counter d.if-take_at_once.ensures)

pub returns-in-Taken : goal.returns-in-Taken
returns-in-Taken g d =
    let found = finds_none d.args.seat d.take_at_once.new.seat d.args.counter d.if-take_at_once.ensures in
    inl (enters_first d.args.seat d.take_at_once.new.seat d.in-Taken.seat d.args.counter d.args.lifo found d.in-Taken.ensures.caller)

pub returns-in-Asleep : goal.returns-in-Asleep
returns-in-Asleep g d =
    let found = finds_none d.args.seat d.take_at_once.new.seat d.args.counter d.if-take_at_once.ensures in
    let first = queues_first d.args.seat d.take_at_once.new.seat d.in-Asleep.sleeping d.args.counter d.args.lifo found d.in-Asleep.ensures.caller in
    then_holds d.args.seat first.0 d.args.counter d.args.lifo d.take_or_begin_leave.result first.1
    (d.take_or_begin_leave.ensures first.0 d.args.counter d.args.lifo first.2)
