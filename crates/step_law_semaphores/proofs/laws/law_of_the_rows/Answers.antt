use Rattle.step_law_semaphores.proofs.Promises.{the_law}
use Rattle.step_law_semaphores.proofs.laws.law_of_the_rows.Goals as goal

pub returns : goal.returns
returns c = the_law
