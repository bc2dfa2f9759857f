use Rattle.step_core.proofs.Changing.{moves_at}
use Rattle.step_core.proofs.machine.WholeMachine.move_on_counters.Goals as goal

pub returns : goal.returns
returns c = moves_at _ _ c.self.view_is c.args.seat c.args.place _ c.begin.ensures
