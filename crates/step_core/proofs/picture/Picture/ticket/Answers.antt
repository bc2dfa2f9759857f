use Rattle.std.proofs.Common.{[], ap, ◌∙◌}
use Rattle.step_core.specs.Picture.{ticket_of}
use Rattle.step_core.specs.State.{WholeMachine, Moment, core_of}
use Rattle.step_core.proofs.picture.Picture.ticket.Goals as goal

pub returns : goal.returns
returns c =
    c.ticket.ensures []
    ∙ ap (λ (m : WholeMachine). ticket_of (((core_of m []).lists c.args.list).seats c.args.seat)) c.deref.ensures
    ∙ ap (λ (m : Moment). ticket_of (((core_of m.machine []).lists c.args.list).seats c.args.seat)) c.self.view_is
