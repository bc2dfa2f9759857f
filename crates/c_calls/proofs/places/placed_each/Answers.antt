use Rattle.std.proofs.Common.{arith}
use Rattle.std.proofs.lemmas.Grind.{common_steps}
use Rattle.c_calls.proofs.Dealing.{one_placed}
use Rattle.c_calls.proofs.places.placed_each.Goals as goal

pub loop-seat-preserved : goal.loop-seat-preserved
loop-seat-preserved g c = let here = c.loop-seat.invariant in let more = c.push_reserved.ensures in let popped = c.in-Some.ensures in (
  grind (arith, common_steps),
  one_placed (λ b. g.S.Keeping.found b.value) c.push_reserved.new.self.items c.loop-seat.places.items c.in_ok-placed.field-0 c.loop-seat.seats.items
      c.pop.new.self.items c.in-Some.seat _ more.items popped.items c.in_ok-placed.ensures here.1,
  (let room = here.2 in let longer = more.len in let cap = more.capacity in let shorter = popped.len in omega arith),
)
