use Rattle.std.proofs.Common.{[], ap, ◌∙◌}
use Rattle.step_core.specs.State.{WholeMachine, Moment, core_of}
use Rattle.step_core.proofs.picture.Picture.handed_out.Goals as goal

pub returns : goal.returns
returns c =
    c.handed_out.ensures []
    ∙ ap (λ (m : WholeMachine). ((core_of m []).lists c.args.list).words.numbers.handed) c.deref.ensures
    ∙ ap (λ (m : Moment). ((core_of m.machine []).lists c.args.list).words.numbers.handed) c.self.view_is
