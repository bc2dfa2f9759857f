use Rattle.std.proofs.Common.{sym, ap, ◌∙◌}
use Rattle.sema_table.specs.Seats.{SeatModel}
use Rattle.sema_table.proofs.seat.Sleeping.id.Goals as goal

pub returns : goal.returns
returns c = (
  c.id.ensures ∙ ap (λ (s : SeatModel). s.number) c.self.view_is,
  (c.self.inside.call, ap (λ (s : SeatModel). s.sight.stands.place) (sym c.self.view_is) ∙ c.self.invariant.at),
)
