use Rattle.step_core.proofs.Changing.{turns_at}
use Rattle.step_core.proofs.machine.WholeMachine.run_on_counter.Goals as goal

pub returns : goal.returns
returns c = turns_at _ _ c.self.view_is c.args.seat _ _ c.run.ensures
