use Rattle.std.proofs.Common.{rules}
use Rattle.sema_root.proofs.branches.is_end.Goals as goal

pub returns-else-eq : goal.returns-else-eq
returns-else-eq c = search rules
