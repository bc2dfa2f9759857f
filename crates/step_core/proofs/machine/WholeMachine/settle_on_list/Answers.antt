use Rattle.std.proofs.Common.{◌∙◌, sym}
use Rattle.step_core.proofs.Settling.{ends_on_list, stays_on_list}
use Rattle.step_core.proofs.machine.WholeMachine.settle_on_list.Goals as goal

pub returns-in-Rest : goal.returns-in-Rest
returns-in-Rest c =
    ends_on_list _ _ c.self.view_is c.args.seat c.args.list _ c.args.ending c.args.before c.number.ensures c.requires.list.0 _ c.index.ensures
    _ (sym c.place.ensures ∙ c.in-Rest.is) c.close_on_list.ensures

pub returns-in_default : goal.returns-in_default
returns-in_default c =
    stays_on_list _ _ c.self.view_is c.args.seat c.args.list _ c.args.ending c.args.before c.number.ensures c.requires.list.0 _ c.index.ensures
    (λ e. c.in_default.not-Rest (c.place.ensures ∙ e))
