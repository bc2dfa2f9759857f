use Rattle.step_law_lists.proofs.ListPromises.{the_list_law}
use Rattle.step_law_lists.proofs.laws.law_of_the_lists.Goals as goal

pub returns : goal.returns
returns c = the_list_law
