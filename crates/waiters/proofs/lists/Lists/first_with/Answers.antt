use Rattle.std.proofs.Common.{ap, sym, ◌∙◌}
use Rattle.std.specs.Prelude.{Some}
use Rattle.waiters.specs.Lists.{is_sought}
use Rattle.waiters.proofs.StepLemmas.{waits_at-open, none_found, FoundAt-mine, ContainsKey-place, wait_found}
use Rattle.waiters.proofs.OtherLemmas.{ContainsKey-open}
use Rattle.waiters.proofs.lists.Lists.first_with.Goals as goal

pub index-chain-requires : goal.index-chain-requires
index-chain-requires c =
    let was = ap (λ lists. lists.slots) (sym c.self.view_is) in
    ContainsKey-open c.self.inside.records c.self.inside.chains c.args.self.now _ _ c.number-list.ensures was c.requires.«open»

pub locate-requires : goal.locate-requires
locate-requires c =
    (c.self.inside.chains, c.self.inside.room, c.self.inside.list_room, c.self.invariant.0, c.self.invariant.1, c.index-chain.ensures)

pub returns-in_default : goal.returns-in_default
returns-in_default c =
    let list = c.number-list.result in
    let chain = c.index-chain.result.now in
    let was = ap (λ lists. lists.slots) (sym c.self.view_is) in
    let finds = rw c.in_default.is at c.locate.ensures in
    let none = none_found _ _ _ _ c.self.invariant.0 list chain c.index-chain.ensures (is_sought c.args.sought) c.args.self.now was finds in
    rw (← c.number-list.ensures) (sym none.0)

pub index-requires : goal.index-requires
index-requires c =
    let list = c.number-list.result in
    let chain = c.index-chain.result.now in
    let finds = rw c.in-Some.is at c.locate.ensures in
    let found = FoundAt-mine _ _ _ _ c.self.invariant.0 list chain c.index-chain.ensures (is_sought c.args.sought) _ finds in
    ContainsKey-place _ _ _ _ c.self.invariant.0 list chain c.index-chain.ensures _ found.stands

pub returns : goal.returns
returns c =
    let list = c.number-list.result in
    let chain = c.index-chain.result.now in
    let finds = rw c.in-Some.is at c.locate.ensures in
    let found = FoundAt-mine _ _ _ _ c.self.invariant.0 list chain c.index-chain.ensures (is_sought c.args.sought) _ finds in
    let was = ap (λ lists. lists.slots) (sym c.self.view_is) in
    let wait = wait_found _ _ _ _ c.self.invariant.0 list chain c.index-chain.ensures _ found.stands c.index.result.now c.index.ensures in
    let waits = waits_at-open _ _ _ _ c.self.invariant.0 list chain c.index-chain.ensures c.args.self.now was in
    rw (← c.number-list.ensures, waits) (ap Some wait ∙ sym found.first)
