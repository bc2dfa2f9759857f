-- What a caller sees of a seat of a task, wherever it stands, and what the seat keeps of its token there.
use Rattle.std.specs.Prelude.{ℕ}
use Rattle.notify_list.specs.declared.task_seat.Stage.{Stage}
use Rattle.notify_list.specs.declared.task_seat.Stage.TheVariants as at
use Rattle.notify_list.specs.declared.task_seat.TaskStage.{TaskStage}
use Rattle.notify_list.specs.declared.task_seat.TaskStage.TheVariants.{Resting, Holding, Parked, OwingAll}
use Rattle.notify_list.specs.Seats.{SeatModel, Token, seat_of, IsSeat, IsHolding, IsParked, IsNotifying}

-- a seat of a task: the seat, and where it stands, of which its place and its ticket tell the rest
pub record TaskModel : Type 0 where
  pub seat : SeatModel
  pub stage : TaskStage

abbrev pub stage_of : Stage → TaskStage
stage_of at.Resting = Resting
stage_of (at.Holding word) = Holding
stage_of (at.Parked may_leave) = Parked
stage_of at.OwingAll = OwingAll

abbrev pub task_of : Token → ℕ → Stage → TaskModel
task_of t n stage = record { seat = seat_of t n; stage = stage_of stage }

-- what its token is there
abbrev pub IsTaskSeat : Token → ℕ → Stage → Type 0
IsTaskSeat t n at.Resting = IsSeat t n
IsTaskSeat t n (at.Holding word) = IsHolding t n word
IsTaskSeat t n (at.Parked may_leave) = IsParked t n may_leave
IsTaskSeat t n at.OwingAll = IsNotifying t n
