use Rattle.std.proofs.Common.{rules}
use Rattle.explorer_answers.proofs.problem.problem_of.Goals as goal

pub returns : goal.returns
returns c = search rules
