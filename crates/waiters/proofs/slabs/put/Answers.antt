use Rattle.std.proofs.Common.{◌∙◌, arith}
use Rattle.waiters.proofs.SlotLemmas.{ContainsKey-full, HasAll-inserted}
use Rattle.waiters.proofs.slabs.put.Goals as goal
use Rattle.waiters.proofs.slabs.put.Goals.{then-loop-slab-test+else-len-capacity, else-loop-slab-test}

pub loop-slab-preserved : goal.loop-slab-preserved
loop-slab-preserved g c =
    let inserted = c.insert_reserved.ensures in
    let later = c.insert_reserved.new.self in (
      HasAll-inserted c.loop-slab.slab later c.args.slab.now _ _ inserted.was_vacant inserted.updates c.loop-slab.invariant.0,
      inserted.capacity ∙ c.loop-slab.invariant.1,
    )

pub index_mut-requires : goal.index_mut-requires
index_mut-requires g c = elim c.loop-slab-test.branch [
  | then-loop-slab-test+else-len-capacity w ↦
      let slots = w.capacity.ensures.slots in
      let held = w.len.ensures in
      ContainsKey-full c.loop-slab.slab c.args.key (omega arith) (omega (arith, c.loop-slab.invariant.1)) (omega arith)
  | else-loop-slab-test w ↦ c.contains.ensures.0 w.loop-slab-test.false
]
