use Rattle.std.proofs.Common.{rules}
use Rattle.explorer_commands.proofs.once.once_answer.Goals as goal

pub returns : goal.returns
returns g c = search rules
