use Rattle.std.proofs.Common.{Ok, sym, refl, ap, subst}
use Rattle.sema_table.specs.declared.task_seat.TaskStage.TheVariants.{Resting}
use Rattle.sema_table.specs.TaskSeats.{TaskModel, stage_of}
use Rattle.sema_table.specs.Tasks.{WakesSomeByTask}
use Rattle.sema_table.proofs.tasks.TaskTable.wake_some.Goals as goal

pub returns-in-Ok : goal.returns-in-Ok
returns-in-Ok c =
    subst (λ (t : TaskModel). WakesSomeByTask c.args.seat (Ok c.in-Ok.seats) t) (sym c.resting.ensures)
    (subst (λ (s : TaskModel). WakesSomeByTask s (Ok c.in-Ok.seats) (record { seat = c.in-Ok.seat; stage = Resting })) c.seat.view_is
    ((ap stage_of c.in-OwingMany.is, refl), c.in-Ok.ensures.rows, c.in-Ok.ensures.caller))
