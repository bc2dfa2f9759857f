use Rattle.std.proofs.Common.{◌≡◌, ◌+◌, ◌-◌, ◌≤◌, List, length, []}
use Rattle.running_rows.specs.Rule.{fresh_seat}
use Rattle.running_rows.specs.Futex.{fresh_parking}
use Rattle.sema_table.specs.Rule.{setting_of}
use Rattle.sema_table.specs.Rows.{semaphore_rows}
use Rattle.sema_table.specs.Seats.{SeatModel}
use Rattle.sema_table.specs.Making.{new_seats}
use Rattle.sema_table.proofs.make.make.Given as goal

abbrev pub invariant-loop-number : goal.invariant-loop-number
invariant-loop-number l = record {
  same : l.first.table_id ≡ l.words.table.shared.table_id;
  first : l.first.me ≡ (record { own = fresh_seat semaphore_rows (setting_of l.key) 0; guests = []; made = l.number; parking = fresh_parking }, []);
  made : ◌≡◌ {A = List SeatModel} l.made.items
      (new_seats (record { id = l.words.table.shared.table_id; setting = setting_of l.key }) 1 (l.number - 1));
  count : length l.made.items + 1 ≡ l.number;
  upto : l.number ≤ l.seats;
  room : l.seats ≤ l.made.cap;
}
