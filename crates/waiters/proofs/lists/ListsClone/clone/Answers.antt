use Rattle.std.proofs.Common.{ap, ◌∙◌}
use Rattle.waiters.proofs.WhereaboutsSteps.{known_nothing}
use Rattle.waiters.proofs.CloneLemmas.{SameValues-clone, listed-same, AreChained-same}
use Rattle.waiters.proofs.lists.ListsClone.clone.Goals as goal

pub invariant_of-result : goal.invariant_of-result
invariant_of-result c =
    let records = SameValues-clone _ _ _ (λ x y is. is) c.in_ok-copied.ensures.clones in
    let chains = SameValues-clone _ _ _ (λ x y is. is) c.in_ok-copied-2.ensures.clones in (
      AreChained-same _ _ records _ _ chains _ _ c.in_ok-copied.ensures.room c.in_ok-copied-2.ensures.room c.self.invariant.0,
      known_nothing c.in_ok-copied.field-0 c.in_ok-copied-2.field-0 _ c.unknown.ensures,
    )

pub returns : goal.returns
returns c =
    let records = SameValues-clone _ _ _ (λ x y is. is) c.in_ok-copied.ensures.clones in
    let chains = SameValues-clone _ _ _ (λ x y is. is) c.in_ok-copied-2.ensures.clones in
    let slots = listed-same c.self.inside.records c.in_ok-copied.field-0 records c.self.inside.chains c.in_ok-copied-2.field-0 chains in
    record { cases = ap (λ slots. record { slots = slots; room = c.self.inside.room; list_room = c.self.inside.list_room }) slots ∙ c.self.view_is }
