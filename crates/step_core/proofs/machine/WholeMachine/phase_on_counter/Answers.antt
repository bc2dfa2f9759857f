use Rattle.std.proofs.Common.{sym, ap, ◌∙◌}
use Rattle.step_table.specs.Row.{row_of, phase_before}
use Rattle.step_rows.specs.Stored.{each, idle}
use Rattle.step_core.specs.State.{WholeMachine}
use Rattle.step_keys.proofs.SeatWords.{chosen, other}
use Rattle.step_core.proofs.machine.WholeMachine.phase_on_counter.Goals as goal

pub returns-then-may_give_up : goal.returns-then-may_give_up
returns-then-may_give_up c = λ journal. sym (chosen _ _ _ (sym (c.may_give_up.ensures journal) ∙ c.if-may_give_up.true))

pub returns : goal.returns
returns c = λ journal.
    c.phase_before.ensures
    ∙ ap phase_before (c.row.ensures
    ∙ ap row_of (c.place.ensures ∙ ap (λ (z : WholeMachine). (each idle z.semaphores.callers c.args.seat).place) c.self.view_is))
    ∙ sym (other _ _ _ (sym (c.may_give_up.ensures journal) ∙ c.if-may_give_up.false))
