use Rattle.std.proofs.Common.{ap, ◌∙◌}
use Rattle.step_table.specs.ListWorld.{ListSeat}
use Rattle.notify_list.proofs.CallersTimed.{then_sleeps, same_list}
use Rattle.notify_list.proofs.notify_list.NotifyList.wait_no_longer.Goals as goal

pub returns-in-Queued-clause-caller : goal.returns-in-Queued-clause-caller
returns-in-Queued-clause-caller g c =
    then_sleeps c.args.holding c.in-Queued.parked c.give_up.result.0 c.give_up.result.1 c.in-Queued.ensures.caller
    (ap (λ (a : ListSeat). a.ticket) c.in-Queued.ensures.rows.comes.stands_is) c.give_up.ensures

pub returns-in-Queued-clause-own : goal.returns-in-Queued-clause-own
returns-in-Queued-clause-own g c =
    same_list c.args.holding c.give_up.result.0 c.give_up.result.1 (returns-in-Queued-clause-caller g c) ∙ c.requires
