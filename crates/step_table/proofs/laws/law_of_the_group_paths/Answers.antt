use Rattle.step_table.proofs.GroupPaths.{the_group_paths}
use Rattle.step_table.proofs.laws.law_of_the_group_paths.Goals as goal

pub returns : goal.returns
returns c = the_group_paths
