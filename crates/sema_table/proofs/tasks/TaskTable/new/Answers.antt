use Rattle.std.proofs.Common.{◌≡◌, sym, subst, List}
use Rattle.std.specs.List.{All}
use Rattle.std.proofs.lemmas.List.Elements.{All-map}
use Rattle.sema_table.specs.declared.task_seat.TaskStage.TheVariants.{Resting}
use Rattle.sema_table.specs.Seats.{SeatModel}
use Rattle.sema_table.specs.TaskSeats.{TaskModel}
use Rattle.sema_table.proofs.tasks.TaskTable.new.Goals as goal

pub returns-in-Ok-clause-own : goal.returns-in-Ok-clause-own
returns-in-Ok-clause-own c =
    subst (λ (l : List TaskModel). All (λ s. s.seat.table ≡ c.in_ok-table.table) l) (sym c.in-Ok.ensures)
    (All-map (λ (x : TaskModel). x.seat.table ≡ c.in_ok-table.table) (λ (s : SeatModel). record { seat = s; stage = Resting }) c.in_ok-table.seats.items
    c.in_ok-table.ensures.own)
