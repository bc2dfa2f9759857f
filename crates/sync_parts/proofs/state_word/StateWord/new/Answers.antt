use Rattle.std.proofs.Common.{arith}
use Rattle.sync_parts.proofs.GroupStarting.{opens}
use Rattle.sync_parts.proofs.state_word.StateWord.new.Goals as goal

pub new-requires-2 : goal.new-requires-2
new-requires-2 c = (omega arith, opens _ _ c.requires)
