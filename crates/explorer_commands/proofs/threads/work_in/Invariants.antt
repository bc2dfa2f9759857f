use Rattle.std.proofs.Common.{◌≡◌, ℕ, ◌+◌, ◌<◌, ◌≤◌, ◌++◌, List, get_or, length}
use Rattle.std.specs.Vec.Iter.{into_iter_items, into_iter_len}
use Rattle.sema_table.specs.Seats.{SeatModel}
use Rattle.explorer_commands.specs.Threads.{Worker, HasWorked}
use Rattle.explorer_commands.proofs.threads.work_in.Given as goal

-- the workers that are left are the last ones; the seats of those before them are back, behind those that were
abbrev pub invariant-loop-worker : goal.invariant-loop-worker
invariant-loop-worker g l =
    let rest = l.worker-iterator in let first = l.initial.worker-iterator in (joined : List SeatModel) × record {
      back : l.back.items ≡ l.initial.back.items ++ joined;
      left : length joined + into_iter_len rest ≡ into_iter_len first;
      next : (k : ℕ) (d : Worker) → k < into_iter_len rest
          → get_or (into_iter_items rest) k d ≡ get_or (into_iter_items first) (length joined + k) d;
      each : (k : ℕ) (d : SeatModel) → k < length joined → HasWorked l.fn.table k l.fn.rounds (get_or joined k d);
      room : length l.initial.back.items + into_iter_len first ≤ l.back.cap;
    }
