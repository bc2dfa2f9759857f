use Rattle.std.proofs.Common.{◌≡◌, ◌∷◌, [], false, Ok, sym, subst}
use Rattle.crossbeam_queue.specs.Passes.{view}
use Rattle.sync_parts.specs.TableCallers.{AcquiresUnit}
use Rattle.sync_parts.specs.CallersReleasing.{ReleasesUnit}
use Rattle.examples.specs.Parts.{QueueModel, WorkerModel}
use Rattle.examples.specs.Queue.{free, full, IsOf, HasPut}
use Rattle.examples.proofs.Queueing.{has_put}
use Rattle.examples.proofs.bounded_queue.BoundedQueue.put.Goals as goal

pub returns : goal.returns
returns g c =
    let q = c.args.self.now in let s = c.worker.inside.seat in let u = c.acquire-seat.result in let t = c.in-Ok.seat in
    let old = c.worker.inside.pass in let new = c.push.new.pass in
    let starts : q.table.setting.starts ≡ q.places ∷ 0 ∷ [] = subst (λ
    (x : QueueModel). x.table.setting.starts ≡ x.places ∷ 0 ∷ []) c.self.view_is c.self.invariant in
    let mine : IsOf q (record {
      seat = s;
      ring = old.table_id;
      moves = view old;
    }) = subst (λ (w : WorkerModel). IsOf q w) (sym c.worker.view_is) c.requires.0 in
    let acquired : AcquiresUnit s free false u = rw c.new.ensures at c.acquire-seat.ensures.caller in
    let released : ReleasesUnit u full false (Ok (t, c.in-Ok.field-0-1)) = rw c.new-2.ensures at c.in-Ok.ensures.caller in
    subst (λ (w : WorkerModel). HasPut q w c.args.item (record { seat = t; ring = new.table_id; moves = view new })) c.worker.view_is
    (has_put q starts s u t old.table_id new.table_id (view old)
    (view new) c.args.item c.in-Ok.field-0-1 mine c.push.ensures.same.0 acquired released c.push.ensures.put)
