use Rattle.std.proofs.Common.{length}
use Rattle.crossbeam_queue.specs.Passes.{view, IsPassOf}
use Rattle.seat_pool.proofs.Filling.{IsFilling}
use Rattle.seat_pool.proofs.pool.SeatPool.new.Given as goal

abbrev pub invariant-loop-seat : goal.invariant-loop-seat
invariant-loop-seat g l =
    IsPassOf l.ring l.pass
    × IsFilling g.T.Lendable.home g.T.Lendable.number g.T.Lendable.rests g.T.Lendable.count l.fn.seats.items l.seats.items l.ring.cap (view l.pass)

abbrev pub decreases-loop-seat : goal.decreases-loop-seat
decreases-loop-seat g l = length l.seats.items
