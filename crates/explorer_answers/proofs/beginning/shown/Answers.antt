use Rattle.std.proofs.Common.{ap, take, ◌∙◌, arith}
use Rattle.std.specs.Prelude.{min}
use Rattle.scenario_text.specs.Causes.{is_printable}
use Rattle.explorer_answers.proofs.Beginnings.{all_pass}
use Rattle.explorer_answers.proofs.beginning.shown.Goals as goal

pub returns-in-Some : goal.returns-in-Some
returns-in-Some c =
    c.in-Some.ensures.0 ∙ ap (λ end. take end c.args.line.now) (c.min-end.ensures ∙ ap (λ end. min end 80) c.printable_length.ensures.all)

pub returns-in-None : goal.returns-in-None
returns-in-None c =
    let none = c.in-None.ensures in
    let all = all_pass is_printable c.args.line.now c.min-end.result (grind (arith)) in
    absurd cc
