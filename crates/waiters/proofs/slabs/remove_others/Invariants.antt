use Rattle.std.proofs.Common.{◌≡◌}
use Rattle.waiters.proofs.SlotLemmas.{IsCutTo}
use Rattle.waiters.proofs.slabs.remove_others.Given as goal

abbrev pub invariant-loop-key : goal.invariant-loop-key
invariant-loop-key g l = IsCutTo l.slab l.other l.key-end l.key × (l.slab.capacity ≡ l.initial.slab.capacity)
