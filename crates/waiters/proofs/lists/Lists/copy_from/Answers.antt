use Rattle.std.proofs.Common.{refl, ap, ◌∙◌, arith}
use Rattle.waiters.proofs.CloneLemmas.{SameValues-grown, listed-same, AreChained-copied}
use Rattle.waiters.proofs.WhereaboutsSteps.{known_same, known_nothing}
use Rattle.waiters.proofs.lists.Lists.copy_from.Goals as goal

pub invariant_of-self : goal.invariant_of-self
invariant_of-self c =
    let lists = c.self.inside in
    let records = SameValues-grown lists.records c.reserve_as.new.slab c.reserve_as.ensures.rest_kept in (
      AreChained-copied lists.records _ records lists.chains _ (λ key. refl) lists.room lists.list_room
          c.reserve_as.ensures.capacity (omega arith) c.self.invariant.0,
      known_same lists.records _ records lists.chains lists.chains (λ key. refl) lists.seats c.self.invariant.1,
    )

pub invariant_of-self-in_err-reserve_as-2 : goal.invariant_of-self-in_err-reserve_as-2
invariant_of-self-in_err-reserve_as-2 c =
    let lists = c.self.inside in
    let records = SameValues-grown lists.records c.reserve_as.new.slab c.reserve_as.ensures.rest_kept in
    let chains = SameValues-grown lists.chains c.reserve_as-2.new.slab c.reserve_as-2.ensures.rest_kept in (
      AreChained-copied lists.records _ records lists.chains _ chains lists.room lists.list_room c.reserve_as.ensures.capacity
          c.reserve_as-2.ensures.capacity c.self.invariant.0,
      known_same lists.records _ records lists.chains _ chains lists.seats c.self.invariant.1,
    )

pub invariant_of-self-2 : goal.invariant_of-self-2
invariant_of-self-2 c =
    let other = c.other.inside in
    let records = c.copy_values.ensures in
    let chains = c.copy_values-2.ensures in (
      AreChained-copied other.records c.copy_values.new.slab records.values other.chains c.copy_values-2.new.slab chains.values other.room other.list_room
          (omega (arith, records.capacity, c.in_ok-reserve_as.ensures.fits)) (omega (arith, chains.capacity, c.in_ok-reserve_as-2.ensures.fits))
          c.other.invariant.0,
      known_nothing c.copy_values.new.slab c.copy_values-2.new.slab _ c.forget_all.ensures,
    )

pub returns-clause-ok : goal.returns-clause-ok
returns-clause-ok c =
    let other = c.other.inside in
    let slots = listed-same other.records c.copy_values.new.slab c.copy_values.ensures.values other.chains
    c.copy_values-2.new.slab c.copy_values-2.ensures.values in
    ap (λ slots. record { slots = slots; room = other.room; list_room = other.list_room }) slots ∙ c.other.view_is
