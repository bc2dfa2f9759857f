use Rattle.std.proofs.Common.{sym, ap, ◌∙◌, slice_get}
use Rattle.step_table.specs.Row.{list_row_of, phase_before}
use Rattle.step_rows.specs.ListStored.{StoredList, seat_of}
use Rattle.step_keys.proofs.SeatWords.{chosen, other}
use Rattle.step_core.proofs.Readying.{list_shown}
use Rattle.step_core.proofs.machine.WholeMachine.phase_on_list.Goals as goal

pub returns-then-may_give_up_on_list : goal.returns-then-may_give_up_on_list
returns-then-may_give_up_on_list c = λ journal. sym (chosen _ _ _ (sym (c.may_give_up_on_list.ensures journal) ∙ c.if-may_give_up_on_list.true))

pub returns : goal.returns
returns c = λ journal.
    c.phase_before.ensures
    ∙ ap phase_before (c.row.ensures
    ∙ ap list_row_of (c.place.ensures
    ∙ ap (λ (l : StoredList). (seat_of (slice_get l.seats c.args.seat)).place)
    (list_shown _ _ c.self.view_is c.args.list _ c.number.ensures c.requires.0 _ c.index.ensures)))
    ∙ sym (other _ _ _ (sym (c.may_give_up_on_list.ensures journal) ∙ c.if-may_give_up_on_list.false))
