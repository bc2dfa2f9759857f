use Rattle.std.proofs.Common.{◌≡◌, ◌≤◌}
use Rattle.sema_table_crew.specs.declared.work.Work.TheVariants.{Locks}
use Rattle.sema_table_crew.specs.Turns.{HasRun}
use Rattle.sema_table_crew.proofs.work.locks.Given as goal

-- the turns so far have run
abbrev pub invariant-loop-turn : goal.invariant-loop-turn
invariant-loop-turn g l =
    (l.seat.table ≡ l.fn.table) × (l.seat.number ≡ l.fn.seat.number) × (l.turn ≤ l.turns) × HasRun Locks l.fn.seat l.turn l.seat
    × (l.own ≡ l.fn.seat.number)
