use Rattle.std.proofs.Common.{rules}
use Rattle.sema_root.proofs.treap_root.list_for.Goals as goal

pub returns : goal.returns
returns c = search rules
