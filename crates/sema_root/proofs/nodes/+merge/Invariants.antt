use Rattle.std.proofs.Common.{◌+◌}
use Rattle.sema_root.specs.Tree.{size}
use Rattle.sema_root.specs.Linked.{tree_at}
use Rattle.sema_root.proofs.nodes.+merge.Given as goal

abbrev pub decreases-merge : goal.decreases-merge
decreases-merge l = size (tree_at l.nodes.now l.first) + size (tree_at l.nodes.now l.second)
