use Rattle.std.proofs.Common.{◌∙◌}
use Rattle.notify_list.specs.declared.waited.WaitedUntil.TheVariants.{Parked}
use Rattle.notify_list.proofs.CallersTimed.{sleeps_on}
use Rattle.notify_list.proofs.notify_list.NotifyList.sleep_until.Goals as goal

pub give_up-requires : goal.give_up-requires
give_up-requires g c = c.loop.invariant.list ∙ c.requires

pub returns-then-is_zero : goal.returns-then-is_zero
returns-then-is_zero g c = c.loop.invariant.sleeps c.give_up.result.1 c.give_up.result.0 c.give_up.ensures

pub sleep_for-requires : goal.sleep_for-requires
sleep_for-requires g c = c.loop.invariant.list ∙ c.requires

pub loop-preserved : goal.loop-preserved
loop-preserved g c = record {
  list = c.in-Still.ensures.0.0.list ∙ c.loop.invariant.list;
  sleeps = λ how t sleeps. c.loop.invariant.sleeps how t (sleeps_on c.loop.parked c.in-Still.still t how c.in-Still.ensures.0 sleeps);
}

pub returns-in-Granted : goal.returns-in-Granted
returns-in-Granted g c = c.loop.invariant.sleeps Parked c.in-Granted.seat c.in-Granted.ensures
