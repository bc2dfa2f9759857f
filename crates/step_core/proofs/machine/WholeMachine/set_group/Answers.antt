use Rattle.step_core.proofs.Changing.{group_at}
use Rattle.step_core.proofs.machine.WholeMachine.set_group.Goals as goal

pub returns : goal.returns
returns c = group_at _ _ c.self.view_is c.args.group _ c.number.ensures c.requires c.args.word
