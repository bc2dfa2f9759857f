use Rattle.std.proofs.Common.{sym, ◌∙◌}
use Rattle.step_core.proofs.Settling.{has_left_group, looks_again_now}
use Rattle.step_core.proofs.machine.WholeMachine.look_again.Goals.{in_default-via-in-GaveUp+else-has_withdrawn, in_default-via-in_default}
use Rattle.step_core.proofs.machine.WholeMachine.look_again.Goals as goal

pub returns-in-GaveUp : goal.returns-in-GaveUp
returns-in-GaveUp c =
    let is = c.has_withdrawn.ensures.0 c.if-has_withdrawn.true in
    has_left_group c.args.seat c.args.group _ _ c.args.ending c.args.before.now c.in-GaveUp.how is.0 c.in-GaveUp.is is.1 c.stand.ensures

pub returns-in_default : goal.returns-in_default
returns-in_default c =
    looks_again_now c.args.seat c.args.group _ _ c.args.ending c.args.before.now
    (λ how a gave at. elim c.in_default.branch [
      | in_default-via-in-GaveUp+else-has_withdrawn w ↦ let wrong = sym (w.has_withdrawn.ensures.1 (a, at)) ∙ w.if-has_withdrawn.false in cc
      | in_default-via-in_default w ↦ w.in_default.not-GaveUp how gave
    ]) c.stand-in_default.ensures
