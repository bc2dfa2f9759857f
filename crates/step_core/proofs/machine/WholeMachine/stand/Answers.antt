use Rattle.step_core.proofs.Changing.{stands_at}
use Rattle.step_core.proofs.machine.WholeMachine.stand.Goals as goal

pub returns : goal.returns
returns c = stands_at _ _ c.self.view_is c.args.seat _ c.number.ensures c.requires c.args.standing
