use Rattle.std.proofs.Common.{◌∷◌, sym, ap, subst, ◌∙◌}
use Rattle.step_table.specs.declared.list_place.ListPlace.TheVariants.{Waiting}
use Rattle.step_table.specs.declared.list_place.WaitRow.TheVariants.{Parked}
use Rattle.step_table.specs.ListWorld.{first_left, with_gone}
use Rattle.step_table.specs.Wrapping.{next_word, less}
use Rattle.step_outcomes.specs.ListOutcomes.{IsNext}
use Rattle.step_rows.specs.ListStored.{StoredList}
use Rattle.step_rows.proofs.Gone.{first_left_more}
use Rattle.step_rows.proofs.list_machine.ListMachine.next.Goals as goal

pub returns-in-Waiting-default-Parked-E3 : goal.returns-in-Waiting-default-Parked-E3
returns-in-Waiting-default-Parked-E3 c =
    let arm = c.in-Waiting-default-Parked-E3 in
    let left = c.first_left-in-Waiting-default-Parked-E3 in
    let row = rw arm.is at arm.field-1-is in
    let parked = rw row at (rw arm.is at arm.field-1-0-is) in
    subst (λ p. IsNext c.args.self.now.gone p left.result) (sym (arm.is ∙ ap (Waiting arm.ticket) (row ∙ ap Parked parked)))
    (ap (λ (l : StoredList). first_left next_word (with_gone less arm.ticket.word l.gone) arm.notified) (sym c.self.view_is)
    ∙ sym (first_left_more next_word less arm.ticket.word c.self.inside.gone.items arm.notified)
    ∙ ap (λ g. first_left next_word (arm.ticket.word ∷ g) arm.notified) (sym c.deref-in-Waiting-default-Parked-E3.ensures.value)
    ∙ sym left.ensures)
