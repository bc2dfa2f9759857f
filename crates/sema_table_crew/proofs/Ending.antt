-- What a call leaves of a seat: its table and number, and what it may still add.
use Rattle.std.proofs.Common.{◌≡◌, ℕ, ◌+◌, Bool, Ok, ◌∙◌, inl, inr, arith}
use Rattle.sema_table.specs.declared.answers.Wake.{Wake}
use Rattle.sema_table.specs.declared.answers.Wake.TheVariants.{Nobody, One, Handed}
use Rattle.sema_table.specs.Seats.{SeatModel}
use Rattle.sema_table.specs.Callers.{IsSeatAfter, AcquiresUnit}
use Rattle.sema_table.specs.CallersReleasing.{ReleasesUnit}

-- the same seat of the same table, which has added so many units
pub record Keeps (s : SeatModel) (added : ℕ) (t : SeatModel) : Type 0 where
  pub table : t.table ≡ s.table
  pub number : t.number ≡ s.number
  pub left : t.left + added ≡ s.left

pub keeps : (s t : SeatModel) (added given : ℕ) (told : _) → IsSeatAfter s added given told t → Keeps s added t
keeps s t added given told x = record { table = x.table; number = x.number; left = x.left }

-- after a call that added nothing
keeps_on : (s u t : SeatModel) → Keeps s 0 u → Keeps u 0 t → Keeps s 0 t
keeps_on s u t x y = record { table = y.table ∙ x.table; number = y.number ∙ x.number; left = let a = x.left in let b = y.left in omega arith }

pub released_keeps : (s t : SeatModel) (c : ℕ) (handoff : Bool) (wake : Wake) → ReleasesUnit s c handoff (Ok (t, wake)) → Keeps s 1 t
released_keeps s t c handoff Nobody x = keeps s t 1 0 _ x.1
released_keeps s t c handoff (One w) x = keeps s t 1 0 _ x.2
released_keeps s t c handoff (Handed w) x = keeps s t 1 0 _ x.2

pub acquired_keeps : (s t : SeatModel) (c : ℕ) (lifo : Bool) → AcquiresUnit s c lifo t → Keeps s 0 t
acquired_keeps s t c lifo (inl x) = keeps s t 0 1 _ x
acquired_keeps s t c lifo (inr (u, none, (waits, all, inl own))) = keeps_on s u t (keeps s u 0 0 _ none.0) (keeps u t 0 1 _ own)
acquired_keeps s t c lifo (inr (u, none, (waits, all, inr served))) = keeps_on s u t (keeps s u 0 0 _ none.0) (keeps u t 0 1 _ served.0)
