-- What the threads of a crew promise.
use Rattle.std.specs.Prelude.{◌≡◌, Option}
use Rattle.std.specs.declared.thread.PromisedHandle.{PromisedHandle}
use Rattle.sema_table.specs.Seats.{TableModel, SeatModel}
use Rattle.sema_table_crew.specs.declared.crew.Plan.{Plan}
use Rattle.sema_table_crew.specs.declared.crew.Back.{Back}

-- a thread that works for a seat
abbrev pub Worker : Type 0
Worker = PromisedHandle (Option SeatModel) Back

-- it promises that the seat has worked by the plan, or that none comes back
pub record IsWorker (t : TableModel) (plan : Plan) (worker : Worker) : Type 0 where
  pub table_is : worker.promise.table.now ≡ t
  pub plan_is : worker.promise.plan ≡ plan
