use Rattle.std.proofs.Common.{sym, ap, ◌∙◌}
use Rattle.waiters.specs.Lists.{waits_at}
use Rattle.sema_root.specs.Tree.{sought, top_place}
use Rattle.sema_root.proofs.Mapping.{mapped-sought, mapped-top_place, mapped-treap}
use Rattle.sema_root.proofs.treap_root.TreapRoot.place.Goals as goal

pub returns-clause-place : goal.returns-clause-place
returns-clause-place c =
    let waits = waits_at c.self.inside.lists in
    let tree = c.self.inside.treap.tree in
    rw (← c.self.view_is) (c.place.ensures.place
    ∙ sym (ap top_place (mapped-sought waits c.args.counter tree) ∙ mapped-top_place waits (sought c.args.counter tree)))

pub returns-clause-treap : goal.returns-clause-treap
returns-clause-treap c = rw (← c.self.view_is) (mapped-treap (waits_at c.self.inside.lists) c.self.inside.treap.tree c.self.invariant.treap)
