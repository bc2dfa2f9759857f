use Rattle.std.proofs.Common.{rules}
use Rattle.sync_parts.proofs.group_make.settings.Goals as goal

pub returns : goal.returns
returns c = search rules
