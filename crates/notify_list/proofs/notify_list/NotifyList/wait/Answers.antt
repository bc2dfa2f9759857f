use Rattle.std.proofs.Common.{ap}
use Rattle.step_table.specs.ListWorld.{ListSeat}
use Rattle.notify_list.proofs.Parking.{waited_parked, granted_parked}
use Rattle.notify_list.proofs.CallersTimed.{granted_then}
use Rattle.notify_list.proofs.notify_list.NotifyList.wait.Goals as goal

pub returns-in-Queued-clause-waited : goal.returns-in-Queued-clause-waited
returns-in-Queued-clause-waited g c =
    waited_parked c.args.holding c.in-Queued.parked c.sleep.result c.in-Queued.ensures.rows c.sleep.ensures.took

pub returns-in-Queued-clause-granted : goal.returns-in-Queued-clause-granted
returns-in-Queued-clause-granted g c =
    granted_parked c.args.holding c.in-Queued.parked c.sleep.result c.in-Queued.ensures.rows c.sleep.ensures.took

pub returns-in-Queued-clause-caller : goal.returns-in-Queued-clause-caller
returns-in-Queued-clause-caller g c =
    granted_then c.args.holding c.in-Queued.parked c.sleep.result c.in-Queued.ensures.caller
    (ap (λ (a : ListSeat). a.ticket) c.in-Queued.ensures.rows.comes.stands_is) c.sleep.ensures.caller
