use Rattle.std.proofs.Common.{rules}
use Rattle.step_core.proofs.scenario.Scenario.semaphores.Goals as goal

pub returns : goal.returns
returns c = search rules
