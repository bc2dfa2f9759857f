use Rattle.std.proofs.Common.{◌≡◌, ◌<◌, ℕ, length}
use Rattle.sema_table_crew.specs.declared.work.Work.TheVariants.{Spread}
use Rattle.sema_table_crew.specs.Turns.{HasRun}
use Rattle.sema_table_crew.proofs.work.spread.Given as goal

-- the turns so far have run
abbrev pub invariant-loop-drawn : goal.invariant-loop-drawn
invariant-loop-drawn g l =
    (l.seat.table ≡ l.fn.table) × (l.seat.number ≡ l.fn.seat.number) × ((m : ℕ) × HasRun Spread l.fn.seat m l.seat)
    × (0 < l.many) × (l.many ≡ length l.fn.table.setting.starts)

abbrev pub decreases-loop-drawn : goal.decreases-loop-drawn
decreases-loop-drawn g l = l.seat.left
