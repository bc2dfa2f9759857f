use Rattle.sema_root.specs.Tree.{size}
use Rattle.sema_root.specs.Linked.{tree_at}
use Rattle.sema_root.specs.Hanging.{Seeks}
use Rattle.sema_root.proofs.branches.seek.Given as goal

abbrev pub invariant-loop-here : goal.invariant-loop-here
invariant-loop-here l = Seeks l.branches l.counter l.ticket l.link l.here

abbrev pub decreases-loop-here : goal.decreases-loop-here
decreases-loop-here l = size (tree_at l.branches.nodes l.here)
