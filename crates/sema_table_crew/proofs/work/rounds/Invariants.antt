use Rattle.std.proofs.Common.{◌≡◌, ℕ, ◌%◌}
use Rattle.sema_table_crew.specs.declared.work.Work.TheVariants.{Rounds}
use Rattle.sema_table_crew.specs.Turns.{HasRun}
use Rattle.sema_table_crew.proofs.work.rounds.Given as goal

-- an even number of turns has run
abbrev pub invariant-loop-first : goal.invariant-loop-first
invariant-loop-first g l =
    (l.seat.table ≡ l.fn.table) × (l.seat.number ≡ l.fn.seat.number) × ((m : ℕ) × HasRun Rounds l.fn.seat m l.seat × (m % 2 ≡ 0))

abbrev pub decreases-loop-first : goal.decreases-loop-first
decreases-loop-first g l = l.seat.left
