use Rattle.step_core.proofs.Changing.{and_then}
use Rattle.step_core.proofs.machine.WholeMachine.give_up.Goals as goal

pub returns : goal.returns
returns c = and_then c.move_on_counters.ensures c.stand.ensures
