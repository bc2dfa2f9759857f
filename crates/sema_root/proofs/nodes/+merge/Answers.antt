use Rattle.std.proofs.Common.{arith}
use Rattle.sema_root.proofs.Standing.{Opens-holds, Holds-occupied, smaller_left, smaller_right}
use Rattle.sema_root.proofs.Parting.{Merges-no_first, Merges-no_second, AreMergeable-first, AreMergeable-second, Merges-first, Merges-second, first_around}
use Rattle.sema_root.proofs.Parting.{second_around, Keeps-occupied}
use Rattle.sema_root.proofs.nodes.+merge.Goals as goal

pub returns-in_default-clause-merges : goal.returns-in_default-clause-merges
returns-in_default-clause-merges t c = Merges-no_first _ _ _ c.in_default.is c.requires

pub returns-in_default-second-clause-merges : goal.returns-in_default-second-clause-merges
returns-in_default-second-clause-merges t c = rw (← c.in-Some.is) (Merges-no_second _ _ _ c.in_default-second.is c.requires)

pub index-upper-requires : goal.index-upper-requires
index-upper-requires t c = Holds-occupied _ _ _ _ c.in-Some.is c.requires.first_holds

pub index-lower-requires : goal.index-lower-requires
index-lower-requires t c = Holds-occupied _ _ _ _ c.in-Some-second.is c.requires.second_holds

pub merge-below-requires : goal.merge-below-requires
merge-below-requires t c =
    let opens = Opens-holds _ _ _ _ _ c.in-Some.is c.index-upper.ensures c.requires.first_holds in
    rw (← c.in-Some-second.is) (omega (arith, smaller_right _ _ _ opens, c.decreases), AreMergeable-first _ _ _ _ c.requires opens)

pub set_right-requires : goal.set_right-requires
set_right-requires t c =
    let opens = Opens-holds _ _ _ _ _ c.in-Some.is c.index-upper.ensures c.requires.first_holds in
    let done = rw (← c.in-Some-second.is) at c.merge-below.ensures.merges in
    Keeps-occupied _ _ _ _ _ done.keeps c.index-upper.ensures (first_around _ _ _ _ c.requires opens).behind

pub returns-then-upper-lower-clause-merges : goal.returns-then-upper-lower-clause-merges
returns-then-upper-lower-clause-merges t c =
    let opens = Opens-holds _ _ _ _ _ c.in-Some.is c.index-upper.ensures c.requires.first_holds in
    let lower_opens = Opens-holds _ _ _ _ _ c.in-Some-second.is c.index-lower.ensures c.requires.second_holds in
    let done = rw (← c.in-Some-second.is) at c.merge-below.ensures.merges in
    Merges-first _ _ _ _ c.requires opens _ _ _ _ _ lower_opens c.index-upper.ensures c.set_right.ensures.capacity
    c.if-upper-lower.true done c.set_right.ensures.right

pub merge-below-requires-else-upper-lower : goal.merge-below-requires-else-upper-lower
merge-below-requires-else-upper-lower t c =
    let opens = Opens-holds _ _ _ _ _ c.in-Some-second.is c.index-lower.ensures c.requires.second_holds in
    rw (← c.in-Some.is) (omega (arith, smaller_left _ _ _ opens, c.decreases), AreMergeable-second _ _ _ _ c.requires opens)

pub set_left-requires : goal.set_left-requires
set_left-requires t c =
    let opens = Opens-holds _ _ _ _ _ c.in-Some-second.is c.index-lower.ensures c.requires.second_holds in
    let done = rw (← c.in-Some.is) at c.merge-below-else-upper-lower.ensures.merges in
    Keeps-occupied _ _ _ _ _ done.keeps c.index-lower.ensures (second_around _ _ _ _ c.requires opens).before

pub returns-else-upper-lower-clause-merges : goal.returns-else-upper-lower-clause-merges
returns-else-upper-lower-clause-merges t c =
    let opens = Opens-holds _ _ _ _ _ c.in-Some-second.is c.index-lower.ensures c.requires.second_holds in
    let upper_opens = Opens-holds _ _ _ _ _ c.in-Some.is c.index-upper.ensures c.requires.first_holds in
    let done = rw (← c.in-Some.is) at c.merge-below-else-upper-lower.ensures.merges in
    Merges-second _ _ _ _ c.requires opens _ _ _ _ _ upper_opens c.index-lower.ensures c.set_left.ensures.capacity
    c.if-upper-lower.false done c.set_left.ensures.left
