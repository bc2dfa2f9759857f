use Rattle.std.proofs.Common.{[], map, ap, ◌∙◌}
use Rattle.waiters.specs.declared.wait.Wait.{Wait}
use Rattle.step_core.specs.State.{WholeMachine, Moment, core_of}
use Rattle.step_core.proofs.Reading.{if_ok}
use Rattle.step_core.proofs.picture.Picture.queued.Goals as goal

pub returns : goal.returns
returns c = if_ok c.queued.result
    (λ waits is.
    is []
    ∙ ap (λ (m : WholeMachine). map (λ (wait : Wait). wait.id) ((core_of m []).lists c.args.list).words.queue) c.deref.ensures
    ∙ ap (λ (m : Moment). map (λ (wait : Wait). wait.id) ((core_of m.machine []).lists c.args.list).words.queue) c.self.view_is)
    c.queued.ensures
