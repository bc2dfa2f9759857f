use Rattle.step_law_whole.proofs.RunEnding.{the_run_ends}
use Rattle.step_law_whole.proofs.ends.law_of_the_runs_ends.Goals as goal

pub returns : goal.returns
returns c = the_run_ends
