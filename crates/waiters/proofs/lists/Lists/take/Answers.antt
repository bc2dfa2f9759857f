use Rattle.std.proofs.Common.{ap, sym, ◌∙◌, refl}
use Rattle.std.specs.Prelude.{Some}
use Rattle.waiters.specs.Lists.{is_sought, without_sought}
use Rattle.waiters.proofs.StepLemmas.{AreChained-unlinked, Changes-unlinked, wait-unlinked, waits_at-open, none_found, FoundAt-mine, ContainsKey-place}
use Rattle.waiters.proofs.StepLemmas.{IsThere-before, before_apart, some_counted}
use Rattle.waiters.proofs.OtherLemmas.{ContainsKey-open, Changes-same}
use Rattle.waiters.proofs.WhereaboutsSteps.{known_unlinked}
use Rattle.waiters.proofs.lists.Lists.take.Goals as goal

pub index-chain-requires : goal.index-chain-requires
index-chain-requires c =
    let was = ap (λ lists. lists.slots) (sym c.self.view_is) in
    ContainsKey-open c.self.inside.records c.self.inside.chains c.args.self.now _ _ c.number-list.ensures was c.requires.«open»

pub locate-requires : goal.locate-requires
locate-requires c =
    (c.self.inside.chains, c.self.inside.room, c.self.inside.list_room, c.self.invariant.0, c.self.invariant.1, c.index-chain.ensures)

pub returns-in_default-clause-first : goal.returns-in_default-clause-first
returns-in_default-clause-first c =
    let list = c.number-list.result in
    let chain = c.index-chain.result.now in
    let was = ap (λ lists. lists.slots) (sym c.self.view_is) in
    let finds = rw c.in_default.is at c.locate.ensures in
    let none = none_found _ _ _ _ c.self.invariant.0 list chain c.index-chain.ensures (is_sought c.args.sought) c.args.self.now was finds in
    rw (← c.number-list.ensures) (sym none.0)

pub returns-in_default-clause-rest : goal.returns-in_default-clause-rest
returns-in_default-clause-rest c =
    let list = c.number-list.result in
    let chain = c.index-chain.result.now in
    let was = ap (λ lists. lists.slots) (sym c.self.view_is) in
    let finds = rw c.in_default.is at c.locate.ensures in
    let none = none_found _ _ _ _ c.self.invariant.0 list chain c.index-chain.ensures (is_sought c.args.sought) c.args.self.now was finds in
    rw (← c.number-list.ensures) (Changes-same c.args.self.now list _ none.1)

pub unlink-wait-requires-clause-there : goal.unlink-wait-requires-clause-there
unlink-wait-requires-clause-there c =
    let list = c.number-list.result in
    let chain = c.index-chain.result.now in
    let finds = rw c.in-Some.is at c.locate.ensures in
    let found = FoundAt-mine _ _ _ _ c.self.invariant.0 list chain c.index-chain.ensures (is_sought c.args.sought) _ finds in
    ContainsKey-place _ _ _ _ c.self.invariant.0 list chain c.index-chain.ensures _ found.stands

pub unlink-wait-requires-clause-before : goal.unlink-wait-requires-clause-before
unlink-wait-requires-clause-before c =
    let list = c.number-list.result in
    let chain = c.index-chain.result.now in
    let finds = rw c.in-Some.is at c.locate.ensures in
    let found = FoundAt-mine _ _ _ _ c.self.invariant.0 list chain c.index-chain.ensures (is_sought c.args.sought) _ finds in
    IsThere-before _ _ _ _ c.self.invariant.0 list chain c.index-chain.ensures _ found.stands

pub unlink-wait-requires-clause-apart : goal.unlink-wait-requires-clause-apart
unlink-wait-requires-clause-apart c =
    let list = c.number-list.result in
    let chain = c.index-chain.result.now in
    let finds = rw c.in-Some.is at c.locate.ensures in
    let found = FoundAt-mine _ _ _ _ c.self.invariant.0 list chain c.index-chain.ensures (is_sought c.args.sought) _ finds in
    before_apart _ _ _ _ c.self.invariant.0 list chain c.index-chain.ensures _ found.stands

pub unlink-wait-requires-clause-counted : goal.unlink-wait-requires-clause-counted
unlink-wait-requires-clause-counted c =
    let list = c.number-list.result in
    let chain = c.index-chain.result.now in
    let finds = rw c.in-Some.is at c.locate.ensures in
    let found = FoundAt-mine _ _ _ _ c.self.invariant.0 list chain c.index-chain.ensures (is_sought c.args.sought) _ finds in
    some_counted _ _ _ _ c.self.invariant.0 list chain c.index-chain.ensures _ found.stands

pub forget-requires : goal.forget-requires
forget-requires c =
    let list = c.number-list.result in
    let chain = c.index-chain.result.now in
    let finds = rw c.in-Some.is at c.locate.ensures in
    let found = FoundAt-mine _ _ _ _ c.self.invariant.0 list chain c.index-chain.ensures (is_sought c.args.sought) _ finds in
    ContainsKey-place _ _ _ _ c.self.invariant.0 list chain c.index-chain.ensures _ found.stands

pub invariant_of-self : goal.invariant_of-self
invariant_of-self c =
    let list = c.number-list.result in
    let chain = c.index-chain.result.now in
    let finds = rw c.in-Some.is at c.locate.ensures in
    let found = FoundAt-mine _ _ _ _ c.self.invariant.0 list chain c.index-chain.ensures (is_sought c.args.sought) _ finds in (
      AreChained-unlinked _ _ _ _ c.self.invariant.0 list chain c.index-chain.ensures _ _ _ _ found.stands c.unlink-wait.ensures,
      known_unlinked _ _ _ _ c.self.invariant.0 _ c.self.invariant.1 list chain c.index-chain.ensures _ _ _ _ found.stands c.unlink-wait.ensures _ c.forget.ensures,
    )

pub returns-clause-first : goal.returns-clause-first
returns-clause-first c =
    let list = c.number-list.result in
    let chain = c.index-chain.result.now in
    let finds = rw c.in-Some.is at c.locate.ensures in
    let found = FoundAt-mine _ _ _ _ c.self.invariant.0 list chain c.index-chain.ensures (is_sought c.args.sought) _ finds in
    let was = ap (λ lists. lists.slots) (sym c.self.view_is) in
    let wait = wait-unlinked _ _ _ _ c.self.invariant.0 list chain c.index-chain.ensures _ _ _ _ found.stands c.unlink-wait.ensures in
    let waits = waits_at-open _ _ _ _ c.self.invariant.0 list chain c.index-chain.ensures c.args.self.now was in
    rw (← c.number-list.ensures, waits) (ap Some (sym wait) ∙ sym found.first)

pub returns-clause-rest : goal.returns-clause-rest
returns-clause-rest c =
    let list = c.number-list.result in
    let chain = c.index-chain.result.now in
    let finds = rw c.in-Some.is at c.locate.ensures in
    let found = FoundAt-mine _ _ _ _ c.self.invariant.0 list chain c.index-chain.ensures (is_sought c.args.sought) _ finds in
    let was = ap (λ lists. lists.slots) (sym c.self.view_is) in
    let waits = waits_at-open _ _ _ _ c.self.invariant.0 list chain c.index-chain.ensures c.args.self.now was in
    rw (← c.number-list.ensures) (Changes-unlinked _ _ _ _ c.self.invariant.0 list chain c.index-chain.ensures _ _ _ _ found.stands c.unlink-wait.ensures
    c.args.self.now _ _ was refl (sym found.without ∙ ap (without_sought (is_sought c.args.sought)) (sym waits)))
