use Rattle.std.proofs.Common.{rules}
use Rattle.explorer_commands.proofs.judged.reply_judgement.Goals as goal

pub returns : goal.returns
returns c = search rules
