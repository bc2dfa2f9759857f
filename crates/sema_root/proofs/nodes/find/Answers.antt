use Rattle.std.proofs.Common.{◌∙◌}
use Rattle.sema_root.proofs.Parting.{Holds-leaf}
use Rattle.sema_root.proofs.Standing.{Opens-holds, Holds-occupied, Holds-nothing, sought-open_here, sought-open_left, sought-open_right, smaller_left}
use Rattle.sema_root.proofs.Standing.{smaller_right, same_tested, above_tested, below_tested}
use Rattle.sema_root.proofs.nodes.find.Goals as goal

pub index-requires : goal.index-requires
index-requires c = Holds-occupied _ _ _ _ c.in-Some.is c.loop-here.invariant.0

pub returns-then-eq : goal.returns-then-eq
returns-then-eq c =
    let opens = Opens-holds _ _ _ _ _ c.in-Some.is c.index.ensures c.loop-here.invariant.0 in
    rw (← c.in-Some.is, c.loop-here.invariant.1, sought-open_here _ _ _ opens _ (same_tested _ _ c.if-eq.ensures)) c.loop-here.invariant.0

pub loop-here-smaller-then-lt : goal.loop-here-smaller-then-lt
loop-here-smaller-then-lt c =
    smaller_left _ _ _ (Opens-holds _ _ _ _ _ c.in-Some.is c.index.ensures c.loop-here.invariant.0) c.args.counter

pub loop-here-preserved-then-lt : goal.loop-here-preserved-then-lt
loop-here-preserved-then-lt c =
    let opens = Opens-holds _ _ _ _ _ c.in-Some.is c.index.ensures c.loop-here.invariant.0 in
    (opens.left, c.loop-here.invariant.1 ∙ sought-open_left _ _ _ opens _ (below_tested _ _ c.if-lt.ensures))

pub loop-here-smaller : goal.loop-here-smaller
loop-here-smaller c =
    smaller_right _ _ _ (Opens-holds _ _ _ _ _ c.in-Some.is c.index.ensures c.loop-here.invariant.0) c.args.counter

pub loop-here-preserved : goal.loop-here-preserved
loop-here-preserved c =
    let opens = Opens-holds _ _ _ _ _ c.in-Some.is c.index.ensures c.loop-here.invariant.0 in
    (opens.right, c.loop-here.invariant.1 ∙ sought-open_right _ _ _ opens _ (above_tested _ _ c.if-eq.ensures c.if-lt.ensures))

pub returns : goal.returns
returns c =
    rw (c.loop-here.invariant.1, Holds-nothing _ _ _ c.in_default.is c.loop-here.invariant.0) (Holds-leaf c.args.nodes.now)
