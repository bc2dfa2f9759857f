use Rattle.std.proofs.Common.{◌≡◌}
use Rattle.waiters.proofs.SlotLemmas.{HasBelow}
use Rattle.waiters.proofs.LeftLemmas.{left_from}
use Rattle.waiters.proofs.slabs.put_all.Given as goal

abbrev pub invariant-loop-key : goal.invariant-loop-key
invariant-loop-key g l =
    HasBelow l.slab l.other l.key × (l.slab.capacity ≡ l.initial.slab.capacity) × (l.left ≡ left_from l.other l.key)
