use Rattle.std.proofs.Common.{rules}
use Rattle.sema_root.proofs.treap_root.TreapRoot.make.Goals as goal

pub invariant_of-result : goal.invariant_of-result
invariant_of-result c = search rules
