use Rattle.std.specs.Prelude.{◌≡◌, ℕ, Bool}
use Rattle.sema_table.specs.Seats.{SeatModel}
use Rattle.sema_table.specs.CallersTimed.{SleepsIn}
use Rattle.sema_table.proofs.sema_table.SemaTable.take_or_begin_leave.Given as goal

abbrev pub invariant-loop : goal.invariant-loop
invariant-loop g l = record {
  table : l.sleeping.table ≡ l.initial.sleeping.table;
  left : l.sleeping.left ≡ l.initial.sleeping.left;
  sleeps : (s : SeatModel) (c : ℕ) (lifo : Bool) → SleepsIn s c lifo l.initial.sleeping → SleepsIn s c lifo l.sleeping;
}
