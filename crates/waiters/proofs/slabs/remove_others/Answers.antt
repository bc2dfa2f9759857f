use Rattle.std.proofs.Common.{◌∙◌, sym, refl, arith}
use Rattle.waiters.proofs.SlotLemmas.{SameValues-from, get-vacant, IsCutTo-start, IsCutTo-removed, IsCutTo-kept, IsCutTo-done}
use Rattle.waiters.proofs.slabs.remove_others.Goals as goal
use Rattle.waiters.proofs.slabs.remove_others.Goals.{then-not-contains, else-not-contains}

pub loop-key-init : goal.loop-key-init
loop-key-init g c = (IsCutTo-start c.args.slab.now c.args.other.now c.capacity-key-end.result c.capacity-key-end.ensures.slots c.requires, refl)

pub returns-then-len-clause-values : goal.returns-then-len-clause-values
returns-then-len-clause-values g c = SameValues-from c.loop-key.slab c.args.other.now c.loop-key.invariant.0.all (omega arith)

pub loop-key-preserved : goal.loop-key-preserved
loop-key-preserved g c =
    let slab = c.loop-key.slab in
    let other = c.args.other.now in
    let capacity = c.capacity-key-end.result in
    let key = c.loop-key.key in
    let cut = c.loop-key.invariant.0 in
    elim c.if-not-contains.branch [
      | then-not-contains w ↦
          let removed = w.try_remove.ensures in
          let vacant = get-vacant other key (λ has. let wrong = sym (c.contains.ensures.1 has) ∙ w.if-not-contains.true in absurd (cc)) in
          rw w.slab-is (IsCutTo-removed slab w.try_remove.new.self other capacity key vacant removed.updates cut, removed.capacity ∙ c.loop-key.invariant.1)
      | else-not-contains w ↦
          rw w.slab-is (IsCutTo-kept slab other capacity key (c.contains.ensures.0 w.if-not-contains.false) cut, c.loop-key.invariant.1)
    ]

pub returns-clause-values : goal.returns-clause-values
returns-clause-values g c =
    IsCutTo-done c.loop-key.slab c.args.other.now c.capacity-key-end.result c.loop-key.key c.loop-key-test.false c.loop-key.invariant.0
