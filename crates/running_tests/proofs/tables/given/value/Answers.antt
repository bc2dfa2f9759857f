use Rattle.std.proofs.Common.{ap, ◌∙◌}
use Rattle.sema_table.specs.Seats.{SeatModel}
use Rattle.running_tests.proofs.tables.given.value.Goals as goal

pub returns : goal.returns
returns g c = ap (λ (t : SeatModel). t.table) c.value.ensures.rows.looked.same ∙ c.requires
