use Rattle.sema_root.proofs.Standing.{Holds-occupied}
use Rattle.sema_root.proofs.Listing.{smaller_toward}
use Rattle.sema_root.proofs.Walking.{SeeksTo-nothing, SeeksTo-node, Seeks-toward}
use Rattle.sema_root.proofs.branches.seek.Goals as goal

pub index-requires : goal.index-requires
index-requires c = Holds-occupied _ _ _ _ c.in-Some.is c.loop-here.invariant.comes.searchable.holds

pub returns-then-is_end : goal.returns-then-is_end
returns-then-is_end c =
    rw (← c.in-Some.is) (SeeksTo-node _ _ _ _ _ c.loop-here.invariant _ _ c.in-Some.is c.index.ensures c.if-is_end.ensures)

pub loop-here-smaller : goal.loop-here-smaller
loop-here-smaller c =
    rw c.toward-side.ensures (smaller_toward _ _ _ _ _ _ c.loop-here.invariant.comes c.in-Some.is c.index.ensures c.if-is_end.ensures.0)

pub loop-here-preserved : goal.loop-here-preserved
loop-here-preserved c =
    rw c.toward-side.ensures
    (Seeks-toward _ _ _ _ _ c.loop-here.invariant _ _ c.in-Some.is c.index.ensures c.if-is_end.ensures.0 c.if-is_end.ensures.1)

pub returns : goal.returns
returns c = SeeksTo-nothing _ _ _ _ _ c.loop-here.invariant c.in_default.is
