use Rattle.std.proofs.Common.{ap, sym, refl}
use Rattle.waiters.proofs.StepLemmas.{AreChained-prepended, Changes-prepended, len_fits}
use Rattle.waiters.proofs.OtherLemmas.{ContainsKey-open}
use Rattle.waiters.proofs.WhereaboutsLemmas.{known_fresh}
use Rattle.waiters.proofs.WhereaboutsSteps.{prepended_there, known_prepended}
use Rattle.waiters.proofs.lists.Lists.push_front.Goals as goal

pub index-chain-requires : goal.index-chain-requires
index-chain-requires c =
    let was = ap (λ lists. lists.slots) (sym c.self.view_is) in
    ContainsKey-open c.self.inside.records c.self.inside.chains c.args.self.now _ _ c.number-list.ensures was c.requires.«open»

pub prepend-key-requires-clause-counted : goal.prepend-key-requires-clause-counted
prepend-key-requires-clause-counted c =
    let some = rw (← c.self.view_is) at c.requires.fits in
    len_fits _ _ _ _ c.self.invariant.0 c.number-list.result c.index-chain.result.now c.index-chain.ensures some

pub learn-requires-clause-there : goal.learn-requires-clause-there
learn-requires-clause-there c =
    let some = rw (← c.self.view_is) at c.requires.fits in let made = c.prepend-key.ensures in
    rw made.1 (prepended_there _ _ _ _ c.self.invariant.0 _ c.self.invariant.1 c.number-list.result c.index-chain.result.now c.index-chain.ensures
    _ c.args.wait _ made.0 some)

pub learn-requires-clause-fresh : goal.learn-requires-clause-fresh
learn-requires-clause-fresh c =
    let made = c.prepend-key.ensures in
    rw made.1 (known_fresh _ _ _ c.self.invariant.1 made.0.key made.0.vacant)

pub invariant_of-self : goal.invariant_of-self
invariant_of-self c =
    let some = rw (← c.self.view_is) at c.requires.fits in let made = c.prepend-key.ensures in
    let list = c.number-list.result in let chain = c.index-chain.result.now in (
      AreChained-prepended _ _ _ _ c.self.invariant.0 list chain c.index-chain.ensures _ c.args.wait _ made.0 some,
      known_prepended _ _ _ _ c.self.invariant.0 _ c.self.invariant.1 list chain c.index-chain.ensures _ c.args.wait _ made.0 some _
          (rw made.1 at c.learn.ensures),
    )

pub returns-clause-pushed : goal.returns-clause-pushed
returns-clause-pushed c =
    let some = rw (← c.self.view_is) at c.requires.fits in
    rw (← c.number-list.ensures) (Changes-prepended _ _ _ _ c.self.invariant.0 c.number-list.result c.index-chain.result.now c.index-chain.ensures _ c.args.wait
    _ c.prepend-key.ensures.0 some c.args.self.now _ (ap (λ lists. lists.slots) (sym c.self.view_is)) refl)
