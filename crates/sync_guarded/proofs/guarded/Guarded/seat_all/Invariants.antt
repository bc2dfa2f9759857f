use Rattle.std.proofs.Common.{◌≡◌, ◌+◌, ◌≤◌, List, [], length, map}
use Rattle.std.specs.List.{range_with_len}
use Rattle.sync_guarded.specs.Seats.{SeatModel}
use Rattle.sync_guarded.specs.Making.{has_made, new_seat}
use Rattle.sync_guarded.proofs.guarded.Guarded.seat_all.Given as goal

abbrev pub invariant-loop-number : goal.invariant-loop-number
invariant-loop-number g l = record {
  first : l.first.table_id ≡ l.self.id;
  makes : l.first.me ≡ (has_made l.fn.seats (length l.made.items + 1), []);
  seated : ◌≡◌ {A = List (SeatModel g.row.T.Denot)} l.made.items (map (new_seat l.self) (range_with_len 1 (length l.made.items)));
  count : length l.made.items + 1 ≡ l._number;
  room : l.fn.seats ≤ l.made.cap;
  upto : l._number ≤ l.fn.seats;
}
