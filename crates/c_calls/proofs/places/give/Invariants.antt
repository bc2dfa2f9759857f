use Rattle.std.proofs.Common.{◌≡◌, ◌+◌, [], ◌∷◌, ◌++◌, length, map, reverse, take}
use Rattle.c_calls.proofs.places.give.Given as goal

abbrev pub invariant-loop-handle : goal.invariant-loop-handle
invariant-loop-handle l =
    (length l.places.items + l.handle-index ≡ length l.handles)
    × (take l.handle-index (map (λ h. h.cell.places) l.handles) ++ reverse (map (λ b. b.value ∷ []) l.places.items)
    ≡ reverse (map (λ b. b.value ∷ []) l.fn.places.items))
