use Rattle.std.proofs.Common.{◌≡◌, Some, [], ◌∷◌, ◌++◌, rules}
use Rattle.std.proofs.lemmas.List.Elements.{All-pop, All-push, All-same}
use Rattle.sema_table_crew.specs.Turns.{HasWorked}
use Rattle.sema_table_crew.specs.Crew.{IsWorker}
use Rattle.sema_table_crew.proofs.Keeping.{kept}
use Rattle.sema_table_crew.proofs.crew.join_all.Goals as goal

pub loop-worker-preserved : goal.loop-worker-preserved
loop-worker-preserved g c =
    let table = c.args.table.now in let plan = c.args.plan in let w = c.in-Some.worker in let s = c.in-Some-join.seat in
    let was = c.loop-worker.invariant in let before = c.loop-worker.seats.items in
    let left = All-pop (IsWorker table plan) c.loop-worker.workers.items c.pop.new.self.items (Some w) c.in-Some.ensures.items was.0 in
    let pushed : c.push.new.self.items ≡ before ++ s ∷ [] = grind rules in
    let worked = kept table plan w s left.1 c.in-Some-join.ensures in (
      left.0,
      All-same (HasWorked table plan.work plan.turns) _ _ pushed
          (All-push (HasWorked table plan.work plan.turns) before s was.1 worked),
    )
