use Rattle.step_law_whole.proofs.ListEnding.{the_list_ends}
use Rattle.step_law_whole.proofs.ends.law_of_the_lists_ends.Goals as goal

pub returns : goal.returns
returns c = the_list_ends
