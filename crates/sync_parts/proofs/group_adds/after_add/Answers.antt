use Rattle.std.proofs.Common.{rules}
use Rattle.sync_parts.proofs.group_adds.after_add.Goals as goal

pub returns-then-left-gt0 : goal.returns-then-left-gt0
returns-then-left-gt0 c = search rules
