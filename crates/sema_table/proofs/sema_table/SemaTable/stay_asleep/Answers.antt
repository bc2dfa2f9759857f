use Rattle.std.proofs.Common.{subst}
use Rattle.sema_table.specs.Seats.{SeatModel, seat_of}
use Rattle.sema_table.specs.Leaving.{StaysAsleep}
use Rattle.sema_table.proofs.Leaving.{stayed_seat, stayed_rows}
use Rattle.sema_table.proofs.CallerLeaves.{stays}
use Rattle.sema_table.proofs.sema_table.SemaTable.stay_asleep.Goals as goal

pub invariant_of-result : goal.invariant_of-result
invariant_of-result c =
    let g = c.giving_up.inside in let y = c.unlock_staying.ensures in
    stayed_seat g.token g.numbers g.call g.turn c.giving_up.invariant c.unlock_staying.new.token y.0 y.1

pub returns-clause-rows : goal.returns-clause-rows
returns-clause-rows c =
    let g = c.giving_up.inside in let y = c.unlock_staying.ensures in
    subst (λ (s : SeatModel). StaysAsleep s (seat_of c.unlock_staying.new.token g.numbers)) c.giving_up.view_is
    (stayed_rows g.token g.numbers g.call g.turn c.giving_up.invariant c.unlock_staying.new.token y.0 y.1)

pub returns-clause-caller : goal.returns-clause-caller
returns-clause-caller c = stays _ _ (returns-clause-rows c)
