use Rattle.std.proofs.Common.{◌∙◌}
use Rattle.notify_list.proofs.CallersLeaving.{tries_to_give_up, tries_to_leave}
use Rattle.notify_list.proofs.notify_list.NotifyList.try_leave_with.Goals as goal

pub try_leave_at_lock-requires-clause-seat : goal.try_leave_at_lock-requires-clause-seat
try_leave_at_lock-requires-clause-seat g c = (c.in-Ok.ensures.caller.0.list ∙ c.requires.seat, c.in-Ok.ensures.rows.1)

pub returns-in-Ok-clause-rows : goal.returns-in-Ok-clause-rows
returns-in-Ok-clause-rows g c =
    tries_to_leave c.args.parked c.in-Ok.still c.in-Ok.ensures.caller c.in-Ok.ensures.rows.0 c.try_leave_at_lock.result c.try_leave_at_lock.ensures.rows

pub returns-in-Ok-clause-caller : goal.returns-in-Ok-clause-caller
returns-in-Ok-clause-caller g c =
    tries_to_give_up c.args.parked c.in-Ok.still c.in-Ok.ensures.caller c.try_leave_at_lock.result c.try_leave_at_lock.ensures.rows
    c.try_leave_at_lock.ensures.lawful
