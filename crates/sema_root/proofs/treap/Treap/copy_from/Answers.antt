use Rattle.std.proofs.Common.{Result, Ok, Err, OnErr, ◌∙◌, arith}
use Rattle.sema_root.proofs.Copying.{seen-copied, seen-grown, IsPlanted-copied, IsPlanted-grown}
use Rattle.sema_root.proofs.treap.Treap.copy_from.Goals as goal

on_err : {A E : Type 0} (P : Type 0) (r : Result A E) → P → OnErr r P
on_err P (Ok value) holds = tt
on_err P (Err cause) holds = holds

pub invariant_of-self : goal.invariant_of-self
invariant_of-self c =
    let reserved = c.reserve_as.ensures in
    IsPlanted-grown _ c.reserve_as.new.slab _ _ c.self.invariant reserved.rest_kept reserved.capacity

pub returns-in_err-reserve_as-clause-treap_stays : goal.returns-in_err-reserve_as-clause-treap_stays
returns-in_err-reserve_as-clause-treap_stays c =
    let reserved = c.reserve_as.ensures in
    let seen = seen-grown _ c.reserve_as.new.slab _ _ c.self.invariant reserved.rest_kept reserved.capacity in
    on_err _ c.from_residual.result (seen ∙ c.self.view_is)

pub invariant_of-self-in_err-copy_from : goal.invariant_of-self-in_err-copy_from
invariant_of-self-in_err-copy_from c =
    let reserved = c.reserve_as.ensures in
    IsPlanted-grown _ c.reserve_as.new.slab _ _ c.self.invariant reserved.rest_kept reserved.capacity

pub returns-in_err-copy_from-clause-treap_stays : goal.returns-in_err-copy_from-clause-treap_stays
returns-in_err-copy_from-clause-treap_stays c =
    let reserved = c.reserve_as.ensures in
    let seen = seen-grown _ c.reserve_as.new.slab _ _ c.self.invariant reserved.rest_kept reserved.capacity in
    on_err _ c.from_residual-in_err-copy_from.result (seen ∙ c.self.view_is)

pub invariant_of-self-2 : goal.invariant_of-self-2
invariant_of-self-2 c =
    let copied = c.copy_values.ensures in
    IsPlanted-copied c.other.inside.branches.nodes c.copy_values.new.slab copied.values _ _ c.other.invariant
    (omega (arith, copied.capacity, c.in_ok-reserve_as.ensures.fits, c.other.invariant.fits))

pub returns-clause-treap : goal.returns-clause-treap
returns-clause-treap c =
    let copied = c.copy_values.ensures in
    seen-copied c.other.inside.branches.nodes c.copy_values.new.slab copied.values _ _ c.other.invariant
    (omega (arith, copied.capacity, c.in_ok-reserve_as.ensures.fits, c.other.invariant.fits)) ∙ c.other.view_is
