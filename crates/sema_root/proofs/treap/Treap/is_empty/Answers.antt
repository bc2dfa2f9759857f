use Rattle.sema_root.proofs.Standing.{Holds-nothing_iff}
use Rattle.sema_root.proofs.treap.Treap.is_empty.Goals as goal

pub returns : goal.returns
returns c = rw (← c.self.view_is) (Holds-nothing_iff _ _ c.is_none.result _ c.is_none.ensures c.self.invariant.holds)
