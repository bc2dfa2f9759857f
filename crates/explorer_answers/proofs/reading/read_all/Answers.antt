use Rattle.std.proofs.lemmas.Grind.{common_steps}
use Rattle.std.proofs.Common.{arith}
use Rattle.explorer_answers.proofs.reading.read_all.Goals as goal

pub loop-is_more-preserved : goal.loop-is_more-preserved
loop-is_more-preserved g c = grind (arith, common_steps)
