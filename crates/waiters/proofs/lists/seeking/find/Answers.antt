use Rattle.std.proofs.Common.{sym, ◌∙◌}
use Rattle.waiters.proofs.WalkLemmas.{WalkedTo-start, WalkedTo-next, WalkedTo-found, WalkedTo-end, WalkedTo-shorter, Linked-there}
use Rattle.waiters.proofs.lists.seeking.find.Goals as goal

pub loop-here-init : goal.loop-here-init
loop-here-init c = WalkedTo-start _ _ _ c.requires

pub index-requires : goal.index-requires
index-requires c =
    let walked = rw c.in-Some.is at c.loop-here.invariant in
    Linked-there c.args.records.now c.in-Some.key walked.rest walked.left

pub returns-then-is : goal.returns-then-is
returns-then-is c =
    let walked = rw c.in-Some.is at c.loop-here.invariant in
    WalkedTo-found _ _ _ _ _ c.index.result.now walked c.index.ensures (sym c.is.ensures ∙ c.if-is.true)

pub loop-here-preserved : goal.loop-here-preserved
loop-here-preserved c =
    let walked = rw c.in-Some.is at c.loop-here.invariant in
    WalkedTo-next _ _ _ _ _ c.index.result.now walked c.index.ensures (sym c.is.ensures ∙ c.if-is.false)

pub loop-here-smaller : goal.loop-here-smaller
loop-here-smaller c =
    let walked = rw c.in-Some.is at c.loop-here.invariant in
    rw c.in-Some.is (WalkedTo-shorter _ _ _ _ _ c.index.result.now walked c.index.ensures)

pub returns : goal.returns
returns c = let walked = rw c.in_default.is at c.loop-here.invariant in WalkedTo-end _ _ _ _ walked
