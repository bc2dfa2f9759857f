use Rattle.std.proofs.Common.{vec_len}
use Rattle.std.specs.List.{All}
use Rattle.sema_table_crew.specs.Turns.{HasWorked}
use Rattle.sema_table_crew.specs.Crew.{IsWorker}
use Rattle.sema_table_crew.proofs.crew.join_all.Given as goal

abbrev pub invariant-loop-worker : goal.invariant-loop-worker
invariant-loop-worker g l =
    All (IsWorker l.fn.table l.fn.plan) l.workers.items × All (HasWorked l.fn.table l.fn.plan.work l.fn.plan.turns) l.seats.items

abbrev pub decreases-loop-worker : goal.decreases-loop-worker
decreases-loop-worker g l = vec_len l.workers
