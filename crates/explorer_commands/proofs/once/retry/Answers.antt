use Rattle.std.proofs.Common.{rules}
use Rattle.explorer_commands.proofs.once.retry.Goals as goal

pub returns-in-Asleep : goal.returns-in-Asleep
returns-in-Asleep g c = search rules
