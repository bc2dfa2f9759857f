use Rattle.std.proofs.Common.{refl}
use Rattle.sema_root.proofs.Listing.{Enters-end, Enters-there}
use Rattle.sema_root.proofs.branches.list_for.Goals as goal

pub returns-in_default : goal.returns-in_default
returns-in_default c =
    Enters-end _ _ _ _ _ c.seek-link.ensures _ _ _ _ c.in_default.is c.requires.fits
    c.enter.ensures.is_new c.enter.ensures.hangs c.enter.ensures.opens

pub returns : goal.returns
returns c =
    Enters-there _ _ _ _ _ c.seek-link.ensures _ _ _ (record { nodes = c.split-sides.new.nodes; top = c.args.branches.now.top }) _ _ _
    c.requires.fits c.in_default-list_of.ensures c.split-sides.ensures.splits refl c.split-sides.ensures.len
    c.enter-2.ensures.is_new c.enter-2.ensures.hangs c.enter-2.ensures.opens
