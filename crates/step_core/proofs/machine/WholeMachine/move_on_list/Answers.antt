use Rattle.step_table.specs.ListWorld.{ListWorld}
use Rattle.step_table.specs.ListSteps.{moved}
use Rattle.step_core.proofs.Changing.{list_changes_at}
use Rattle.step_core.proofs.machine.WholeMachine.move_on_list.Goals as goal

pub returns : goal.returns
returns c = list_changes_at _ _ c.self.view_is c.args.list _ c.number.ensures c.requires.0 _ c.index_mut.ensures.value _
    (λ (s : ListWorld). moved s c.args.seat c.args.place) c.begin.ensures.world c.begin.ensures.count
