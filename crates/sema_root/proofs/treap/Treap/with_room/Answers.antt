use Rattle.sema_root.proofs.Planting.{IsPlanted-empty, leaf-read}
use Rattle.sema_root.proofs.treap.Treap.with_room.Goals as goal

pub invariant_of-result : goal.invariant_of-result
invariant_of-result c = let a = c.in_ok-with_capacity.ensures in IsPlanted-empty _ _ a.empty a.capacity

pub returns-clause-empty : goal.returns-clause-empty
returns-clause-empty c = leaf-read _
