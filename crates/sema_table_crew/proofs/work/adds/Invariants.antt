use Rattle.std.proofs.Common.{◌≡◌, ◌≤◌}
use Rattle.sema_table_crew.specs.declared.work.Work.TheVariants.{Adds}
use Rattle.sema_table_crew.specs.Turns.{HasRun}
use Rattle.sema_table_crew.proofs.work.adds.Given as goal

-- the turns so far have run
abbrev pub invariant-loop-turn : goal.invariant-loop-turn
invariant-loop-turn g l =
    (l.seat.table ≡ l.fn.table) × (l.seat.number ≡ l.fn.seat.number) × (l._turn ≤ l.turns) × HasRun Adds l.fn.seat l._turn l.seat
