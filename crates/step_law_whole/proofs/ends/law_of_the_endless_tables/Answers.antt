use Rattle.step_law_whole.proofs.Endless.{none_has_weight}
use Rattle.step_law_whole.proofs.ends.law_of_the_endless_tables.Goals as goal

pub returns : goal.returns
returns c = none_has_weight
