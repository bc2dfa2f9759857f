use Rattle.program_steps.proofs.Layers.{layer_lawful}
use Rattle.program_steps.proofs.laws.law_of_the_layers.Goals as goal

pub returns : goal.returns
returns c = λ p formed few schedule s reached. layer_lawful p formed few schedule s reached
