use Rattle.program_steps.proofs.Counting.{counts_at_most}
use Rattle.program_steps.proofs.laws.law_of_the_numbers.Goals as goal

pub returns : goal.returns
returns c = λ p formed few starts schedule s reached. counts_at_most p formed starts few schedule s reached
