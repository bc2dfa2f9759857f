use Rattle.std.proofs.Common.{sym, ◌∙◌, rules}
use Rattle.step_core.proofs.Independent.{on_one_list}
use Rattle.step_core.proofs.machine.WholeMachine.are_apart.Goals as goal

pub returns-else-ne : goal.returns-else-ne
returns-else-ne c apart =
    on_one_list c.args.self.now c.args.first c.args.second c.in-AtList.list c.in-AtList-other.next _ _
    (sym c.doing.ensures ∙ c.in-AtList.is) (sym c.doing-other.ensures ∙ c.in-AtList-other.is) (search rules)
    (c.are_apart_on.ensures apart)
