use Rattle.explorer_commands.proofs.Replays.{agree}
use Rattle.explorer_commands.proofs.laws.law_of_the_replays.Goals as goal

pub returns : goal.returns
returns c = agree
