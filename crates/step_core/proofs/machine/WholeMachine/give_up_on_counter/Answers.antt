use Rattle.step_core.proofs.Settling.{gives_up_now}
use Rattle.step_core.proofs.machine.WholeMachine.give_up_on_counter.Goals as goal

pub returns : goal.returns
returns c =
    gives_up_now _ _ c.self.view_is c.args.seat c.args.after _ _ _ c.place.ensures c.leaving-place.ensures c.given_up_after.ensures _ c.at_counter.ensures
