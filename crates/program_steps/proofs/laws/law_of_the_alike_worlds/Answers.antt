use Rattle.program_steps.proofs.Alike.{alike_behave}
use Rattle.program_steps.proofs.laws.law_of_the_alike_worlds.Goals as goal

pub returns : goal.returns
returns c = λ p s t e. alike_behave p s t e
