use Rattle.std.proofs.Common.{ap, sym}
use Rattle.sema_root.specs.Tree.{top_place}
use Rattle.sema_root.proofs.Standing.{Opens-holds, Holds-occupied, Holds-nothing}
use Rattle.sema_root.proofs.nodes.place_of.Goals as goal

pub returns-in_default : goal.returns-in_default
returns-in_default c = sym (ap top_place (Holds-nothing _ _ _ c.in_default.is c.find.ensures))

pub index-node-requires : goal.index-node-requires
index-node-requires c = Holds-occupied _ _ _ _ c.in-Some.is c.find.ensures

pub counter_at-requires : goal.counter_at-requires
counter_at-requires c = (Opens-holds _ _ _ _ _ c.in-Some.is c.index-node.ensures c.find.ensures).left

pub counter_at-requires-2 : goal.counter_at-requires-2
counter_at-requires-2 c = (Opens-holds _ _ _ _ _ c.in-Some.is c.index-node.ensures c.find.ensures).right

pub returns : goal.returns
returns c =
    let there = ap top_place (Opens-holds _ _ _ _ _ c.in-Some.is c.index-node.ensures c.find.ensures).is in
    rw (c.counter_at.ensures, c.counter_at-2.ensures) (sym there)
