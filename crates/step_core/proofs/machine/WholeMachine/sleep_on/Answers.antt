use Rattle.step_core.proofs.Settling.{sleeps_on_now}
use Rattle.step_core.proofs.machine.WholeMachine.sleep_on.Goals as goal

pub returns : goal.returns
returns c =
    sleeps_on_now c.args.seat c.args.group _ _ c.self.view_is _ _ c.args.how c.place.ensures c.staying-place.ensures _ c.at_counter.ensures
