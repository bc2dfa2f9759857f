use Rattle.step_core.proofs.Changing.{and_then}
use Rattle.step_core.proofs.machine.WholeMachine.wait_on_list.Goals as goal

pub returns : goal.returns
returns c = and_then c.wait_with_ticket.ensures c.stand.ensures
