use Rattle.std.proofs.Common.{rules}
use Rattle.waiters.proofs.lists.unlink.Goals as goal

pub returns : goal.returns
returns c = search rules
