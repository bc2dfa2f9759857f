use Rattle.std.proofs.Common.{◌≡◌, [], is_some, get_or, Some, None, ap, sym, refl, ◌∙◌}
use Rattle.slab.specs.Slab.{get}
use Rattle.waiters.specs.Chains.{waits_in, listed}
use Rattle.waiters.proofs.OtherLemmas.{list_at-listed, ContainsKey-open, AreChained-step, Changes-step, Keeps-same, HasRoom-more}
use Rattle.waiters.proofs.WhereaboutsSteps.{known_closed}
use Rattle.waiters.proofs.lists.Lists.close.Goals as goal

pub remove-requires : goal.remove-requires
remove-requires c =
    let was = ap (λ lists. lists.slots) (sym c.self.view_is) in
    ContainsKey-open c.self.inside.records c.self.inside.chains c.args.self.now _ _ c.number.ensures was (ap is_some c.requires)

pub invariant_of-self : goal.invariant_of-self
invariant_of-self c =
    let old = c.self.invariant.0 in
    let records = c.self.inside.records in
    let removed = c.remove.ensures in
    let chains = c.self.inside.chains in
    let was : listed records chains ≡ c.args.self.now.slots = ap (λ lists. lists.slots) c.self.view_is in
    let empty : waits_in records (get chains c.number.result) ≡ Some [] = sym (list_at-listed records chains c.number.result)
    ∙ ap (λ slots. get_or slots c.number.result None) was ∙ ap (λ key. get_or c.args.self.now.slots key None) c.number.ensures ∙ c.requires in (
      AreChained-step records records _ _ _ _ old _ _ removed.updates old.owner _ _ (Keeps-same records old.owner _) tt old.records_fit
          (HasRoom-more _ _ _ old.chains_fit removed.capacity removed.len),
      known_closed records chains _ c.self.inside.seats c.number.result empty removed.updates c.self.invariant.1,
    )

pub returns-clause-closed : goal.returns-clause-closed
returns-clause-closed c =
    let old = c.self.invariant.0 in
    let records = c.self.inside.records in
    rw (← c.number.ensures) (Changes-step records records _ _ _ _ old _ _ c.remove.ensures.updates old.owner _ _ _ (Keeps-same records old.owner _)
    (ap (λ lists. lists.slots) (sym c.self.view_is)) refl refl)
