-- What a caller sees of a seat of a task, wherever it stands, and what the seat keeps of its token there.
use Rattle.sema_table.specs.declared.seat.Numbers.{Numbers}
use Rattle.sema_table.specs.declared.task_seat.Stage.{Stage}
use Rattle.sema_table.specs.declared.task_seat.Stage.TheVariants as at
use Rattle.sema_table.specs.declared.task_seat.TaskStage.{TaskStage}
use Rattle.sema_table.specs.declared.task_seat.TaskStage.TheVariants.{Resting, Owing, OwingMany, Sleeping, Woken}
use Rattle.sema_table.specs.Seats.{SeatModel, Token, seat_of, IsSeat, IsOwing, IsSleeping, IsWoken}
use Rattle.sema_table.specs.ManySeats.{IsOwingMany}

-- a seat of a task: the seat, and where it stands, of which its place tells the rest
pub record TaskModel : Type 0 where
  pub seat : SeatModel
  pub stage : TaskStage

abbrev pub stage_of : Stage → TaskStage
stage_of at.Resting = Resting
stage_of (at.Owing c) = Owing
stage_of (at.OwingMany r) = OwingMany
stage_of (at.Sleeping a turn) = Sleeping
stage_of (at.Woken a) = Woken

abbrev pub task_of : Token → Numbers → Stage → TaskModel
task_of t n stage = record { seat = seat_of t n; stage = stage_of stage }

-- what its token and numbers are there
abbrev pub IsTaskSeat : Token → Numbers → Stage → Type 0
IsTaskSeat t n at.Resting = IsSeat t n
IsTaskSeat t n (at.Owing c) = IsOwing t n c
IsTaskSeat t n (at.OwingMany r) = IsOwingMany t n r
IsTaskSeat t n (at.Sleeping a turn) = IsSleeping t n a turn
IsTaskSeat t n (at.Woken a) = IsWoken t n a
