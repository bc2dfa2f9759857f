use Rattle.std.proofs.Common.{◌≡◌, ◌<◌, ℕ, false, get_or}
use Rattle.c_calls.specs.declared.handle.SeatHandle.{SeatHandle}
use Rattle.c_calls.proofs.deal.are_empty.Given as goal

abbrev pub invariant-loop-handle : goal.invariant-loop-handle
invariant-loop-handle l = (k : ℕ) → k < l.handle-index → (d : SeatHandle) → (get_or l.handles k d).is_full ≡ false
