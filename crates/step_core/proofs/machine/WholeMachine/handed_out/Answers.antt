use Rattle.std.proofs.lemmas.Grind.{common_steps}
use Rattle.std.proofs.Common.{arith}
use Rattle.step_core.proofs.machine.WholeMachine.handed_out.Goals as goal

pub returns : goal.returns
returns c = grind (arith, common_steps)
