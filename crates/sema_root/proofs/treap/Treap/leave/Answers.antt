use Rattle.sema_root.proofs.Planting.{Leaves-top}
use Rattle.sema_root.proofs.treap.Treap.leave.Goals as goal

pub invariant_of-self : goal.invariant_of-self
invariant_of-self c = (Leaves-top _ _ c.self.invariant _ _ _ _ c.leave.ensures.list c.leave.ensures.leaves).stays

pub returns-clause-leaves : goal.returns-clause-leaves
returns-clause-leaves c = rw (← c.self.view_is)
    (Leaves-top _ _ c.self.invariant _ _ _ _ c.leave.ensures.list c.leave.ensures.leaves).settled

pub returns-clause-treap : goal.returns-clause-treap
returns-clause-treap c = (invariant_of-self c).treap
