use Rattle.std.proofs.Common.{◌∙◌, sym, ap}
use Rattle.step_table.specs.declared.place.Place.TheVariants.{Acquiring}
use Rattle.step_table.specs.declared.standing.After.TheVariants.{Closes}
use Rattle.step_core.proofs.Changing.{and_then}
use Rattle.step_core.proofs.Settling.{settles_now, settles_left, settles_queued}
use Rattle.step_core.proofs.machine.WholeMachine.settle_on_counter.Goals as goal

pub returns-in-Rest : goal.returns-in-Rest
returns-in-Rest c = settles_now _ _ c.self.view_is c.args.seat c.args.after c.args.before _ (sym c.place.ensures ∙ c.in-Rest.is) c.go_on.ensures

pub returns-in-Closes-GaveUp : goal.returns-in-Closes-GaveUp
returns-in-Closes-GaveUp c =
    let a = c.in-Acquiring-default-A3 in
    let e = c.in-Closes-GaveUp in
    let gave = rw e.is at e.field-0-is in
    settles_left _ _ c.self.view_is c.args.seat c.args.after c.args.before a.field-0 e.how _
    (sym c.place.ensures ∙ a.is ∙ ap (Acquiring a.field-0) a.field-1-is) (e.is ∙ ap Closes gave)
    (and_then c.move_on_counters.ensures c.stand.ensures)

pub returns-in-Acquiring-default-Parked-default-D3 : goal.returns-in-Acquiring-default-Parked-default-D3
returns-in-Acquiring-default-Parked-default-D3 c =
    let a = c.in-Acquiring-default-Parked-default-D3 in
    settles_queued _ _ c.self.view_is c.args.seat c.args.after c.args.before a.field-0 a.field-1 a.field-1-0 a.field-1-1 _
    (sym c.place.ensures ∙ a.is) a.field-1-is (rw a.field-1-is at a.field-1-1-is) (c.settle_queued.ensures a.field-0 a.field-1-0 c.args.before)
