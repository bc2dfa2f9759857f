use Rattle.std.specs.Prelude.{◌≡◌}
use Rattle.sema_root.specs.Tree.{size, sought}
use Rattle.sema_root.specs.Linked.{tree_at, Holds}
use Rattle.sema_root.proofs.nodes.find.Given as goal

abbrev pub invariant-loop-here : goal.invariant-loop-here
invariant-loop-here l =
    Holds l.nodes l.here (tree_at l.nodes l.here) × (sought l.counter (tree_at l.nodes l.fn.top) ≡ sought l.counter (tree_at l.nodes l.here))

abbrev pub decreases-loop-here : goal.decreases-loop-here
decreases-loop-here l = size (tree_at l.nodes l.here)
