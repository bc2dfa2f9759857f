use Rattle.step_core.proofs.Settling.{looks_queued}
use Rattle.step_core.proofs.machine.WholeMachine.look_where_queued.Goals as goal

pub returns-in-GaveUp : goal.returns-in-GaveUp
returns-in-GaveUp c = λ a turn before.
    looks_queued _ c.args.seat a turn before c.args.group c.in-GaveUp.how c.args.ending c.in-GaveUp.is _ c.stand.ensures
