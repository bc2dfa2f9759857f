use Rattle.sema_root.specs.Tree.{size}
use Rattle.sema_root.specs.Linked.{tree_at}
use Rattle.sema_root.proofs.nodes.+split.Given as goal

abbrev pub decreases-split : goal.decreases-split
decreases-split l = size (tree_at l.nodes.now l.top)
