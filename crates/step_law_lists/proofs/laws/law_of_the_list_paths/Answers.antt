use Rattle.step_law_lists.proofs.ListPaths.{the_list_paths}
use Rattle.step_law_lists.proofs.laws.law_of_the_list_paths.Goals as goal

pub returns : goal.returns
returns c = the_list_paths
