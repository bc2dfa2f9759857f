use Rattle.notify_list.proofs.Making.{seat_made}
use Rattle.notify_list.proofs.make.new_seat.Goals as goal

pub invariant_of-result : goal.invariant_of-result
invariant_of-result c = let r = c.requires.own in seat_made c.args.token r.0 c.args.number r.1 c.requires.bare r.2 r.3
