use Rattle.std.proofs.Common.{arith, eqb-true, eq-eqb}
use Rattle.sema_root.proofs.Growing.{shown-total}
use Rattle.sema_root.proofs.treap_root.TreapRootRootStore.is_full.Goals as goal

pub returns : goal.returns
returns c = rw (← c.self.view_is) (
  λ none. omega (arith, eqb-true c.room.result 0 none, c.room.ensures, shown-total c.self.invariant, c.self.invariant.joined.room),
  λ full. eq-eqb c.room.result 0 (omega (arith, full, c.room.ensures, shown-total c.self.invariant, c.self.invariant.joined.room)),
)
