use Rattle.std.proofs.lemmas.Grind.{common_steps}
use Rattle.std.proofs.Common.{arith}
use Rattle.step_core.proofs.machine.WholeMachine.ticket.Goals as goal

pub returns-in-Waiting : goal.returns-in-Waiting
returns-in-Waiting c = grind (arith, common_steps)
