use Rattle.notify_list.specs.declared.waited.WaitedUntil.TheVariants.{Parked}
use Rattle.notify_list.proofs.CallersTimed.{sleeps_on, left_rests}
use Rattle.notify_list.proofs.notify_list.NotifyList.give_up.Goals as goal

pub returns-in-Left : goal.returns-in-Left
returns-in-Left g c = (c.in-Left.ensures.caller, left_rests c.args.parked c.in-Left.seat c.in-Left.ensures.rows)

pub returns-in-Coming : goal.returns-in-Coming
returns-in-Coming g c =
    sleeps_on c.args.parked c.in-Coming.still c.sleep.result Parked c.in-Coming.ensures.caller.0 c.sleep.ensures.caller

pub returns-in-LimitReached : goal.returns-in-LimitReached
returns-in-LimitReached g c =
    let slept = c.sleep-in-LimitReached in
    sleeps_on c.args.parked c.in-LimitReached.still slept.result Parked c.in-LimitReached.ensures.caller.0 slept.ensures.caller
