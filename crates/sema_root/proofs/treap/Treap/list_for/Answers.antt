use Rattle.sema_root.proofs.Planting.{Listed-top}
use Rattle.sema_root.proofs.treap.Treap.list_for.Goals as goal

pub invariant_of-self : goal.invariant_of-self
invariant_of-self c =
    (Listed-top _ _ c.self.invariant _ _ _ _ _ _ (rw (← c.self.view_is) at c.requires.room) c.list_for.ensures).stays

pub returns-clause-list : goal.returns-clause-list
returns-clause-list c = rw (← c.self.view_is)
    (Listed-top _ _ c.self.invariant _ _ _ _ _ _ (rw (← c.self.view_is) at c.requires.room) c.list_for.ensures).settled

pub returns-clause-treap : goal.returns-clause-treap
returns-clause-treap c = (invariant_of-self c).treap
