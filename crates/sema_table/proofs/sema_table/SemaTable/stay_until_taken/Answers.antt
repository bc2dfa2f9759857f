use Rattle.std.proofs.Common.{inr}
use Rattle.sema_table.proofs.CallerTimed.{sleeps_again}
use Rattle.sema_table.proofs.sema_table.SemaTable.stay_until_taken.Goals as goal

pub returns : goal.returns
returns g d s c lifo held =
    inr (
      held.0,
      held.1,
      d.sleep_for_unit.ensures held.0 c lifo
          (sleeps_again held.0 c lifo d.args.giving_up held.2 d.stay_asleep-sleeping.result d.stay_asleep-sleeping.ensures.caller),
    )
