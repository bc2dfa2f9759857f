-- What a caller sees of a bounded queue and of those who use it.
use Rattle.std.specs.Prelude.{ℕ}
use Rattle.atomic_table.specs.Seated.{TableId}
use Rattle.sync_parts.specs.TableSeats.{TableModel, SeatModel}
use Rattle.examples.specs.declared.moves.Moves.{Moves}

-- the table of its counters, its ring by name, and how many places it has
pub record QueueModel : Type 0 where
  pub table : TableModel
  pub ring : TableId
  pub places : ℕ

-- a seat of the table, the ring, and what the worker has put and taken
pub record WorkerModel : Type 0 where
  pub seat : SeatModel
  pub ring : TableId
  pub moves : Moves

-- the ring, and what those have put and taken who have left
pub record TallyModel : Type 0 where
  pub ring : TableId
  pub moves : Moves
