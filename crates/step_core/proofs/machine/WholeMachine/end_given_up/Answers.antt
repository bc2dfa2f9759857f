use Rattle.std.proofs.Common.{sym, ◌∙◌}
use Rattle.step_core.proofs.Settling.{ends_withdrawn, ends_late}
use Rattle.step_core.proofs.machine.WholeMachine.end_given_up.Goals as goal

pub returns-then-has_withdrawn : goal.returns-then-has_withdrawn
returns-then-has_withdrawn c =
    let is = c.has_withdrawn.ensures.0 c.if-has_withdrawn.true in
    ends_withdrawn c.args.seat c.args.how _ _ c.args.before.now is.0 is.1 c.stand.ensures

pub returns-else-has_withdrawn : goal.returns-else-has_withdrawn
returns-else-has_withdrawn c =
    ends_late c.args.seat c.args.how _ _ c.args.before.now
    (λ a e. let wrong = sym (c.has_withdrawn.ensures.1 (a, e)) ∙ c.if-has_withdrawn.false in cc) _ c.counter.ensures c.comes_late.ensures
