use Rattle.sync_guarded.proofs.Starting.{seats_own}
use Rattle.sync_guarded.proofs.guarded.Guarded.with_seats.Goals as goal

pub returns-clause-own : goal.returns-clause-own
returns-clause-own g c = seats_own c.args.seats c.in-Ok-lay.laid.0 c.seat_all.new.made.items c.seat_all.ensures
