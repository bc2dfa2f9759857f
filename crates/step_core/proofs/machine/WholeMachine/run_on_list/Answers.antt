use Rattle.step_core.proofs.Changing.{list_turns_at}
use Rattle.step_core.proofs.machine.WholeMachine.run_on_list.Goals as goal

pub returns : goal.returns
returns c = list_turns_at _ _ c.self.view_is c.args.list _ c.number.ensures c.requires.there _ c.index_mut.ensures.value _ c.args.seat _ c.run.ensures
