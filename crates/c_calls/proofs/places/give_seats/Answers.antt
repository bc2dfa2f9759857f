use Rattle.std.proofs.Common.{refl, inl, arith}
use Rattle.c_calls.proofs.Dealing.{as_many, dealt}
use Rattle.c_calls.proofs.places.give_seats.Goals as goal

pub give-requires : goal.give-requires
give-requires g c =
    let placed = as_many c.args.seats.items c.in-Ok-placed_each.places.items (λ b. g.S.Keeping.found b.value) c.in-Ok-placed_each.ensures in
    let asked = c.requires.as_many in
    omega arith

pub returns : goal.returns
returns g c = inl (
  refl,
  dealt c.args.seats.items c.in-Ok-placed_each.places.items c.give.new.handles g.S.Keeping.found (λ h. h.cell.places) (λ b. b.value)
      c.give.ensures c.in-Ok-placed_each.ensures,
)
