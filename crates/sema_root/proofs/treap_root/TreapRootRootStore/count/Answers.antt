use Rattle.std.proofs.Common.{arith}
use Rattle.sema_root.proofs.Growing.{shown-total, shown-are_queues}
use Rattle.sema_root.proofs.treap_root.TreapRootRootStore.count.Goals as goal

pub returns-clause-count : goal.returns-clause-count
returns-clause-count c =
    rw (← c.self.view_is) (omega (arith, c.room.ensures, shown-total c.self.invariant, c.self.invariant.joined.room))

pub returns-clause-fits : goal.returns-clause-fits
returns-clause-fits c = rw (← c.self.view_is) (omega (arith, shown-total c.self.invariant, c.self.invariant.joined.room))

pub returns-clause-map : goal.returns-clause-map
returns-clause-map c = rw (← c.self.view_is) (shown-are_queues c.self.invariant)
