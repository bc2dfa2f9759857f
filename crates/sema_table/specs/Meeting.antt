-- What two seats have that met.
use Rattle.std.specs.Prelude.{◌≡◌, ◌≢◌, ℕ}
use Rattle.step_table.specs.declared.word.Word.TheVariants.{Counter}
use Rattle.sema_table.specs.Seats.{SeatModel}
use Rattle.sema_table.specs.Tries.{LooksAt}

-- each of both seats looked at the counter 0 once, and found this number. They have seen one journal then,
-- and are two seats
pub record HasMet (one other one_now other_now : SeatModel) : Type 0 where
  pub number : ℕ
  pub one_looked : LooksAt one (Counter 0) number one_now
  pub other_looked : LooksAt other (Counter 0) number other_now
  pub same : one_now.sight.seen ≡ other_now.sight.seen
  pub two : one.number ≢ other.number
