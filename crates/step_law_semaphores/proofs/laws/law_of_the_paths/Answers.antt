use Rattle.step_law_semaphores.proofs.SemaPaths.{the_sema_paths}
use Rattle.step_law_semaphores.proofs.laws.law_of_the_paths.Goals as goal

pub returns : goal.returns
returns c = the_sema_paths
