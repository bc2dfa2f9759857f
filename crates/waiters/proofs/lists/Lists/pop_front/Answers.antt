use Rattle.std.proofs.Common.{drop, ap, sym, ◌∙◌, refl}
use Rattle.std.specs.Prelude.{Some}
use Rattle.waiters.specs.Chains.{waits_of}
use Rattle.waiters.proofs.StepLemmas.{AreChained-unlinked, Changes-unlinked, wait-unlinked, first_waits, waits_at-open, list_at-open, nil_from_first}
use Rattle.waiters.proofs.StepLemmas.{StandsAt-first, ContainsKey-place, some_counted}
use Rattle.waiters.proofs.OtherLemmas.{ContainsKey-open, Changes-same}
use Rattle.waiters.proofs.WhereaboutsSteps.{known_unlinked}
use Rattle.waiters.proofs.lists.Lists.pop_front.Goals as goal

pub index-chain-requires : goal.index-chain-requires
index-chain-requires c =
    let was = ap (λ lists. lists.slots) (sym c.self.view_is) in
    ContainsKey-open c.self.inside.records c.self.inside.chains c.args.self.now _ _ c.number-list.ensures was c.requires.«open»

pub returns-in_default-clause-first : goal.returns-in_default-clause-first
returns-in_default-clause-first c =
    let list = c.number-list.result in
    let chain = c.index-chain.result.now in
    let was = ap (λ lists. lists.slots) (sym c.self.view_is) in
    let nil = nil_from_first _ _ _ _ c.self.invariant.0 list chain c.index-chain.ensures c.in_default.is in
    let waits = waits_at-open _ _ _ _ c.self.invariant.0 list chain c.index-chain.ensures c.args.self.now was ∙ ap waits_of nil in
    rw (← c.number-list.ensures, waits) refl

pub returns-in_default-clause-rest : goal.returns-in_default-clause-rest
returns-in_default-clause-rest c =
    let list = c.number-list.result in
    let chain = c.index-chain.result.now in
    let was = ap (λ lists. lists.slots) (sym c.self.view_is) in
    let nil = nil_from_first _ _ _ _ c.self.invariant.0 list chain c.index-chain.ensures c.in_default.is in
    let at = list_at-open _ _ _ _ c.self.invariant.0 list chain c.index-chain.ensures c.args.self.now was ∙ ap (λ entries. Some (waits_of entries)) nil in
    rw (← c.number-list.ensures) (Changes-same c.args.self.now list _ (rw at refl))

pub unlink-wait-requires-clause-there : goal.unlink-wait-requires-clause-there
unlink-wait-requires-clause-there c =
    let list = c.number-list.result in
    let chain = c.index-chain.result.now in
    let stands = StandsAt-first _ _ _ _ c.self.invariant.0 list chain c.index-chain.ensures c.in-Some.key c.in-Some.is in
    ContainsKey-place _ _ _ _ c.self.invariant.0 list chain c.index-chain.ensures _ stands

pub unlink-wait-requires-clause-counted : goal.unlink-wait-requires-clause-counted
unlink-wait-requires-clause-counted c =
    let list = c.number-list.result in
    let chain = c.index-chain.result.now in
    let stands = StandsAt-first _ _ _ _ c.self.invariant.0 list chain c.index-chain.ensures c.in-Some.key c.in-Some.is in
    some_counted _ _ _ _ c.self.invariant.0 list chain c.index-chain.ensures _ stands

pub forget-requires : goal.forget-requires
forget-requires c =
    let list = c.number-list.result in
    let chain = c.index-chain.result.now in
    let stands = StandsAt-first _ _ _ _ c.self.invariant.0 list chain c.index-chain.ensures c.in-Some.key c.in-Some.is in
    ContainsKey-place _ _ _ _ c.self.invariant.0 list chain c.index-chain.ensures _ stands

pub invariant_of-self : goal.invariant_of-self
invariant_of-self c =
    let list = c.number-list.result in
    let chain = c.index-chain.result.now in
    let stands = StandsAt-first _ _ _ _ c.self.invariant.0 list chain c.index-chain.ensures c.in-Some.key c.in-Some.is in (
      AreChained-unlinked _ _ _ _ c.self.invariant.0 list chain c.index-chain.ensures _ _ _ _ stands c.unlink-wait.ensures,
      known_unlinked _ _ _ _ c.self.invariant.0 _ c.self.invariant.1 list chain c.index-chain.ensures _ _ _ _ stands c.unlink-wait.ensures _ c.forget.ensures,
    )

pub returns-clause-first : goal.returns-clause-first
returns-clause-first c =
    let list = c.number-list.result in
    let chain = c.index-chain.result.now in
    let was = ap (λ lists. lists.slots) (sym c.self.view_is) in
    let stands = StandsAt-first _ _ _ _ c.self.invariant.0 list chain c.index-chain.ensures c.in-Some.key c.in-Some.is in
    let wait = wait-unlinked _ _ _ _ c.self.invariant.0 list chain c.index-chain.ensures _ _ _ _ stands c.unlink-wait.ensures in
    let waits = first_waits _ _ _ _ c.self.invariant.0 list chain c.index-chain.ensures c.in-Some.key stands c.args.self.now was in
    rw (← c.number-list.ensures, waits) (ap Some (sym wait))

pub returns-clause-rest : goal.returns-clause-rest
returns-clause-rest c =
    let list = c.number-list.result in
    let chain = c.index-chain.result.now in
    let was = ap (λ lists. lists.slots) (sym c.self.view_is) in
    let stands = StandsAt-first _ _ _ _ c.self.invariant.0 list chain c.index-chain.ensures c.in-Some.key c.in-Some.is in
    let waits = first_waits _ _ _ _ c.self.invariant.0 list chain c.index-chain.ensures c.in-Some.key stands c.args.self.now was in
    rw (← c.number-list.ensures) (Changes-unlinked _ _ _ _ c.self.invariant.0 list chain c.index-chain.ensures _ _ _ _ stands c.unlink-wait.ensures
    c.args.self.now _ _ was refl (ap (drop 1) (sym waits)))
