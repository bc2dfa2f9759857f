use Rattle.step_law_whole.proofs.SemaEnding.{the_sema_ends}
use Rattle.step_law_whole.proofs.ends.law_of_the_semaphores_ends.Goals as goal

pub returns : goal.returns
returns c = the_sema_ends
