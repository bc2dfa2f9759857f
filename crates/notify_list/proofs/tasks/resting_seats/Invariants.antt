use Rattle.std.proofs.Common.{◌≡◌, map}
use Rattle.notify_list.specs.declared.task_seat.TaskStage.TheVariants.{Resting}
use Rattle.notify_list.proofs.tasks.resting_seats.Given as goal

abbrev pub invariant-loop-seat : goal.invariant-loop-seat
invariant-loop-seat l = l.made.items ≡ map (λ s. record { seat = s; stage = Resting }) l.yielded
