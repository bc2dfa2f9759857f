use Rattle.step_core.proofs.Changing.{and_then}
use Rattle.step_core.proofs.machine.WholeMachine.at_list.Goals as goal

pub returns : goal.returns
returns c = and_then c.move_on_list.ensures c.stand.ensures
