use Rattle.std.proofs.Common.{[], ap, ◌∙◌}
use Rattle.step_table.specs.ListWorld.{found}
use Rattle.step_core.specs.State.{WholeMachine, Moment, core_of}
use Rattle.step_core.proofs.picture.Picture.list_number.Goals as goal

pub returns : goal.returns
returns c =
    c.list_number.ensures []
    ∙ ap (λ (m : WholeMachine). found ((core_of m []).lists c.args.list).words c.args.word.now) c.deref.ensures
    ∙ ap (λ (m : Moment). found ((core_of m.machine []).lists c.args.list).words c.args.word.now) c.self.view_is
