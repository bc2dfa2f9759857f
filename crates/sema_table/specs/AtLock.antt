-- What follows once a root's lock was taken.
use Rattle.std.specs.Prelude.{◌≡◌, ◌<◌, length}
use Rattle.step_table.specs.declared.place.Place.{Place}
use Rattle.step_table.specs.Counting.{counter_at}
use Rattle.sema_table.specs.declared.seat.Numbers.{Numbers}
use Rattle.sema_table.specs.Seats.{TableModel, Token, IsToken, table_of}
use Rattle.sema_table.specs.Walks.{Locked}

-- t is the seat s of this table, with these numbers, after it took the lock of its call's root at this place
pub record HasLocked (table : TableModel) (s : Token) (n : Numbers) (place : Place) (t : Token) : Type 0 where
  pub token_is : IsToken s n
  pub table_is : table_of s ≡ table
  pub inside : counter_at place < length table.setting.starts
  pub locked : Locked s place t
