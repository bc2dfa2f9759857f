use Rattle.std.proofs.Common.{◌≡◌, ℕ, ◌+◌, ◌<◌, ◌≤◌, get_or, length}
use Rattle.std.specs.List.{All}
use Rattle.std.specs.Vec.Iter.{into_iter_items, into_iter_len}
use Rattle.sema_table.specs.Seats.{SeatModel}
use Rattle.explorer_commands.specs.Threads.{Worker, IsWorker, HasStopped}
use Rattle.explorer_commands.proofs.threads.start_all.Given as goal

-- the seats that are left are the last ones; the first have their workers, and those between are back
abbrev pub invariant-loop-seat : goal.invariant-loop-seat
invariant-loop-seat g l =
    let done = length l.started.items + length l.back.items in let rest = l.seat-iterator in
    let first = l.initial.seat-iterator in record {
      left : done + into_iter_len rest ≡ into_iter_len first;
      next : (k : ℕ) (d : SeatModel) → k < into_iter_len rest
          → get_or (into_iter_items rest) k d ≡ get_or (into_iter_items first) (done + k) d;
      each : (k : ℕ) (d : Worker) → k < length l.started.items
          → IsWorker l.fn.table k l.fn.rounds (get_or l.started.items k d);
      others : All (HasStopped l.fn.table l.fn.rounds) l.back.items;
      room : (into_iter_len first ≤ l.started.cap) × (into_iter_len first ≤ l.back.cap);
    }
