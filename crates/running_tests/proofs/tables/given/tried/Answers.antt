use Rattle.std.proofs.Common.{◌≡◌, ℕ, ap, ◌∙◌}
use Rattle.sema_table.specs.declared.answers.Tried.{Tried}
use Rattle.sema_table.specs.declared.answers.Tried.TheVariants.{Taken, Zero, Lost}
use Rattle.sema_table.specs.Seats.{SeatModel}
use Rattle.sema_table.specs.Tries.{IsTried}
use Rattle.running_tests.proofs.tables.given.tried.Goals as goal

same_table : (s : SeatModel) (c : ℕ) (tried : Tried) (t : SeatModel) → IsTried s c tried t → t.table ≡ s.table
same_table s c Taken t h = ap (λ (x : SeatModel). x.table) h.0
same_table s c Zero t h = ap (λ (x : SeatModel). x.table) h.0
same_table s c Lost t h = ap (λ (x : SeatModel). x.table) h.0

pub returns : goal.returns
returns g c =
    same_table c.args.seat.now c.counter-at.result c.try_acquire.result c.try_acquire.new.seat c.try_acquire.ensures.rows ∙ c.requires
