use Rattle.std.proofs.Common.{rules}
use Rattle.explorer_commands.proofs.judged.line_beside.Goals as goal

pub returns : goal.returns
returns c = search rules
