use Rattle.std.proofs.Common.{◌≡◌, ◌+◌, ◌-◌, ◌≤◌, List, length, []}
use Rattle.running_rows.specs.Futex.{fresh_parking}
use Rattle.running_rows.specs.Rule.{fresh_seat}
use Rattle.notify_list.specs.Rows.{list_rows}
use Rattle.notify_list.specs.Seats.{SeatModel}
use Rattle.notify_list.specs.Making.{new_seats}
use Rattle.notify_list.proofs.make.make.Given as goal

abbrev pub invariant-loop-number : goal.invariant-loop-number
invariant-loop-number l = record {
  same : l.first.table_id ≡ l.words.table.shared.table_id;
  first : l.first.me ≡ (record { own = fresh_seat list_rows l.setting 0; guests = []; made = l.number; parking = fresh_parking }, []);
  made : ◌≡◌ {A = List SeatModel} l.made.items (new_seats (record { id = l.words.table.shared.table_id; setting = l.setting }) 1 (l.number - 1));
  count : length l.made.items + 1 ≡ l.number;
  upto : l.number ≤ l.seats;
  room : l.seats ≤ l.made.cap;
}
