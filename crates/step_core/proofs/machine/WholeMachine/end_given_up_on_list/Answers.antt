use Rattle.std.proofs.Common.{sym, ◌∙◌}
use Rattle.step_core.proofs.Settling.{ends_left, ends_late_on_list}
use Rattle.step_core.proofs.machine.WholeMachine.end_given_up_on_list.Goals as goal

pub returns-then-has_left : goal.returns-then-has_left
returns-then-has_left c =
    let is = c.has_left.ensures.0 c.if-has_left.true in
    ends_left c.args.seat c.args.list c.args.how _ _ c.args.before.now is.0 is.1 c.stand.ensures

pub returns-else-has_left : goal.returns-else-has_left
returns-else-has_left c =
    ends_late_on_list c.args.seat c.args.list c.args.how _ _ c.args.before.now
    (λ t e. let wrong = sym (c.has_left.ensures.1 (t, e)) ∙ c.if-has_left.false in cc) c.come_late_on_list.ensures
