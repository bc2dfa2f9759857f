use Rattle.std.proofs.Common.{rules}
use Rattle.sema_root.proofs.treap_root.TreapRoot.copy_from.Goals as goal

pub returns-clause-ok : goal.returns-clause-ok
returns-clause-ok c = search rules
