use Rattle.step_table.specs.ListWorld.{ListWorld}
use Rattle.step_table.specs.ListSteps.{waiting}
use Rattle.step_core.proofs.Changing.{list_changes_at}
use Rattle.step_core.proofs.machine.WholeMachine.wait_with_ticket.Goals as goal

pub returns : goal.returns
returns c = list_changes_at _ _ c.self.view_is c.args.list _ c.number.ensures c.requires.0 _ c.index_mut.ensures.value _
    (λ (s : ListWorld). waiting s c.args.seat) c.begin_wait.ensures.world c.begin_wait.ensures.count
