use Rattle.std.proofs.Common.{ap, sym}
use Rattle.sema_root.specs.Tree.{top_counter}
use Rattle.sema_root.proofs.Standing.{Opens-holds, Holds-occupied, Holds-nothing}
use Rattle.sema_root.proofs.nodes.counter_at.Goals as goal

pub returns-in_default : goal.returns-in_default
returns-in_default c = sym (ap top_counter (Holds-nothing _ _ _ c.in_default.is c.requires))

pub index-requires : goal.index-requires
index-requires c = Holds-occupied _ _ _ _ c.in-Some.is c.requires

pub returns : goal.returns
returns c = sym (ap top_counter (Opens-holds _ _ _ _ _ c.in-Some.is c.index.ensures c.requires).is)
