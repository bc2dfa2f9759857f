use Rattle.waiters.specs.Lists.{waits_at}
use Rattle.sema_root.proofs.Mapping.{mapped-treap}
use Rattle.sema_root.proofs.treap_root.TreapRoot.top.Goals as goal

pub returns-clause-treap : goal.returns-clause-treap
returns-clause-treap c = rw (← c.self.view_is) (mapped-treap (waits_at c.self.inside.lists) c.self.inside.treap.tree c.self.invariant.treap)
