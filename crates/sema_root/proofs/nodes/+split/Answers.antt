use Rattle.std.proofs.Common.{arith}
use Rattle.sema_root.proofs.Standing.{Opens-holds, Holds-occupied, smaller_left, smaller_right, below_tested, reached_tested}
use Rattle.sema_root.proofs.Parting.{Splits-left, Splits-right, Splits-leaf, Sides-open, Keeps-occupied}
use Rattle.sema_root.proofs.nodes.+split.Goals as goal

pub returns-in_default-clause-splits : goal.returns-in_default-clause-splits
returns-in_default-clause-splits t c = Splits-leaf _ _ _ c.in_default.is c.requires.holds

pub index-requires : goal.index-requires
index-requires t c = Holds-occupied _ _ _ _ c.in-Some.is c.requires.holds

pub split-below-requires : goal.split-below-requires
split-below-requires t c =
    let opens = Opens-holds _ _ _ _ _ c.in-Some.is c.index.ensures c.requires.holds in
    (omega (arith, smaller_left _ _ _ opens, c.decreases), (Sides-open _ _ _ opens c.requires).left)

pub set_left-requires : goal.set_left-requires
set_left-requires t c =
    let opens = Opens-holds _ _ _ _ _ c.in-Some.is c.index.ensures c.requires.holds in
    Keeps-occupied _ _ _ _ _ c.split-below.ensures.splits.keeps c.index.ensures (Sides-open _ _ _ opens c.requires).around.before

pub returns-then-lt-clause-splits : goal.returns-then-lt-clause-splits
returns-then-lt-clause-splits t c =
    let opens = Opens-holds _ _ _ _ _ c.in-Some.is c.index.ensures c.requires.holds in
    Splits-left _ _ _ _ _ _ _ _ _ c.index.ensures c.set_left.ensures.capacity _ opens c.requires.holds c.requires.rising
    (below_tested _ _ c.if-lt.ensures) c.split-below.ensures.splits c.set_left.ensures.left

pub split-below-requires-else-lt : goal.split-below-requires-else-lt
split-below-requires-else-lt t c =
    let opens = Opens-holds _ _ _ _ _ c.in-Some.is c.index.ensures c.requires.holds in
    (omega (arith, smaller_right _ _ _ opens, c.decreases), (Sides-open _ _ _ opens c.requires).right)

pub set_right-requires : goal.set_right-requires
set_right-requires t c =
    let opens = Opens-holds _ _ _ _ _ c.in-Some.is c.index.ensures c.requires.holds in
    Keeps-occupied _ _ _ _ _ c.split-below-else-lt.ensures.splits.keeps c.index.ensures (Sides-open _ _ _ opens c.requires).around.behind

pub returns-else-lt-clause-splits : goal.returns-else-lt-clause-splits
returns-else-lt-clause-splits t c =
    let opens = Opens-holds _ _ _ _ _ c.in-Some.is c.index.ensures c.requires.holds in
    Splits-right _ _ _ _ _ _ _ _ _ c.index.ensures c.set_right.ensures.capacity _ opens c.requires.holds c.requires.rising
    (reached_tested _ _ c.if-lt.ensures) c.split-below-else-lt.ensures.splits c.set_right.ensures.right
