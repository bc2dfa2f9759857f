use Rattle.step_table.proofs.GroupBits.{the_group_words}
use Rattle.step_table.proofs.laws.law_of_the_group_words.Goals as goal

pub returns : goal.returns
returns c = the_group_words
