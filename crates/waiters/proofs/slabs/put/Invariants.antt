use Rattle.std.proofs.Common.{◌≡◌, ◌-◌}
use Rattle.slab.specs.Slab.{slab_len}
use Rattle.waiters.specs.Slabs.{HasAll}
use Rattle.waiters.proofs.slabs.put.Given as goal

abbrev pub invariant-loop-slab : goal.invariant-loop-slab
invariant-loop-slab g l = HasAll l.slab l.initial.slab × (l.slab.capacity ≡ l.initial.slab.capacity)

abbrev pub decreases-loop-slab : goal.decreases-loop-slab
decreases-loop-slab g l = l.slab.capacity - slab_len l.slab
