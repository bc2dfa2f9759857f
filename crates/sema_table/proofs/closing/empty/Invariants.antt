use Rattle.std.proofs.Common.{◌≡◌, ℕ, ◌-◌, ◌<◌, ◌≤◌, true, false, get_or}
use Rattle.std.specs.Mem.Slots.{slots_filled, slots_len}
use Rattle.sema_table.proofs.closing.empty.Given as goal

abbrev pub invariant-loop-slot : goal.invariant-loop-slot
invariant-loop-slot l = ((k : ℕ) → l.slot ≤ k → k < slots_len l.closed.slots → get_or (slots_filled l.closed.slots) k false ≡ true)
    × ((k : ℕ) → k < l.slot → get_or (slots_filled l.closed.slots) k false ≡ false) × (l.closed.words ≡ l.initial.closed.words)

abbrev pub decreases-loop-slot : goal.decreases-loop-slot
decreases-loop-slot l = slots_len l.closed.slots - l.slot
