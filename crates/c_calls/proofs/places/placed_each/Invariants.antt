use Rattle.std.proofs.Common.{◌≡◌, ◌+◌, ◌≤◌, ◌++◌, All, length, map, reverse, Some}
use Rattle.std.specs.Arc.{arc_value}
use Rattle.c_calls.proofs.places.placed_each.Given as goal

abbrev pub invariant-loop-seat : goal.invariant-loop-seat
invariant-loop-seat g l =
    All (λ s. g.S.SeatOf.home s ≡ arc_value l.home) l.seats.items
    × (map (λ b. g.S.Keeping.found b.value) l.places.items ++ reverse (map (λ (s : g.row.S.Denot). Some s) l.seats.items)
    ≡ reverse (map (λ (s : g.row.S.Denot). Some s) l.fn.seats.items))
    × (length l.places.items + length l.seats.items ≤ l.places.cap)

abbrev pub decreases-loop-seat : goal.decreases-loop-seat
decreases-loop-seat g l = length l.seats.items
