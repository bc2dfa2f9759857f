use Rattle.std.proofs.Common.{subst}
use Rattle.notify_list.specs.Seats.{SeatModel}
use Rattle.notify_list.specs.Tickets.{HasTicket}
use Rattle.notify_list.proofs.Taking.{has_ticket}
use Rattle.notify_list.proofs.seat.Holding.ticket.Goals as goal

pub returns : goal.returns
returns c =
    subst (λ (y : SeatModel). HasTicket y c.self.inside.ticket) c.self.view_is
    (has_ticket c.self.inside.token c.self.inside.number c.self.inside.ticket c.self.invariant)
