use Rattle.std.proofs.Common.{◌∙◌}
use Rattle.notify_list.proofs.CallersLeaving.{gives_up, leaves_then}
use Rattle.notify_list.proofs.notify_list.NotifyList.leave.Goals as goal

pub leave_at_lock-requires : goal.leave_at_lock-requires
leave_at_lock-requires g c = (c.in-Ok.ensures.caller.0.list ∙ c.requires, c.in-Ok.ensures.rows.1)

pub returns-in-Ok-clause-rows : goal.returns-in-Ok-clause-rows
returns-in-Ok-clause-rows g c =
    leaves_then c.args.parked c.in-Ok.still c.in-Ok.ensures.caller c.in-Ok.ensures.rows.0 c.leave_at_lock.result c.leave_at_lock.ensures.rows

pub returns-in-Ok-clause-caller : goal.returns-in-Ok-clause-caller
returns-in-Ok-clause-caller g c =
    gives_up c.args.parked c.in-Ok.still c.in-Ok.ensures.caller c.leave_at_lock.result c.leave_at_lock.ensures.rows c.leave_at_lock.ensures.lawful
