use Rattle.std.proofs.Common.{◌≡◌, sym, subst, List}
use Rattle.std.specs.List.{All}
use Rattle.std.proofs.lemmas.List.Elements.{All-map}
use Rattle.notify_list.specs.declared.task_seat.TaskStage.TheVariants.{Resting}
use Rattle.notify_list.specs.Seats.{SeatModel}
use Rattle.notify_list.specs.TaskSeats.{TaskModel}
use Rattle.notify_list.proofs.tasks.TaskList.starting_at.Goals as goal

pub returns-in-Ok-clause-own : goal.returns-in-Ok-clause-own
returns-in-Ok-clause-own c =
    subst (λ (l : List TaskModel). All (λ s. s.seat.list ≡ c.in_ok-list.list) l) (sym c.in-Ok.ensures)
    (All-map (λ (x : TaskModel). x.seat.list ≡ c.in_ok-list.list) (λ (s : SeatModel). record { seat = s; stage = Resting }) c.in_ok-list.made.items
    c.in_ok-list.ensures.own)
