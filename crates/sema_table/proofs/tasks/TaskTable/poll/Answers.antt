use Rattle.std.proofs.Common.{Ok, sym, refl, ap, subst}
use Rattle.sema_table.specs.declared.task_answers.TaskPolled.TheVariants.{Handed}
use Rattle.sema_table.specs.declared.task_seat.TaskStage.TheVariants.{Resting}
use Rattle.sema_table.specs.TaskSeats.{TaskModel, stage_of}
use Rattle.sema_table.specs.Tasks.{PollsByTask}
use Rattle.sema_table.proofs.tasks.TaskTable.poll.Goals as goal

pub returns-in-Handed : goal.returns-in-Handed
returns-in-Handed c =
    subst (λ (t : TaskModel). PollsByTask c.args.seat (Ok Handed) t) (sym c.resting.ensures)
    (subst (λ (s : TaskModel). PollsByTask s (Ok Handed) (record { seat = c.in-Handed.seat; stage = Resting })) c.seat.view_is
    ((ap stage_of c.in-Sleeping.is, refl), c.in-Handed.ensures.rows, c.in-Handed.ensures.caller))
