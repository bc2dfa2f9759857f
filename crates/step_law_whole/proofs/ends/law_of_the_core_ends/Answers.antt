use Rattle.step_law_whole.proofs.CoreAtEnd.{the_core_ends}
use Rattle.step_law_whole.proofs.ends.law_of_the_core_ends.Goals as goal

pub returns : goal.returns
returns c = the_core_ends
