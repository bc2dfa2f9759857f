use Rattle.std.proofs.Common.{◌≡◌, ◌≤◌, ◌+◌, ◌%◌, ◌<◌, length}
use Rattle.sema_table_crew.specs.declared.work.Work.TheVariants.{Hands}
use Rattle.sema_table_crew.specs.Turns.{HasRun}
use Rattle.sema_table_crew.proofs.work.hands.Given as goal

-- the turns so far have run
abbrev pub invariant-loop-turn : goal.invariant-loop-turn
invariant-loop-turn g l =
    (l.seat.table ≡ l.fn.table) × (l.seat.number ≡ l.fn.seat.number) × (l._turn ≤ l.turns) × HasRun (Hands l.way) l.fn.seat l._turn l.seat
    × (l.takes ≡ l.fn.seat.number % length l.fn.table.setting.starts) × (l.takes < length l.fn.table.setting.starts)
    × (l.gives ≡ (l.fn.seat.number + 1) % length l.fn.table.setting.starts) × (l.gives < length l.fn.table.setting.starts)
