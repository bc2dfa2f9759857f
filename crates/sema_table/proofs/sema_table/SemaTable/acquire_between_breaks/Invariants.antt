use Rattle.sema_table.specs.Whole.{TriesOn}
use Rattle.sema_table.proofs.sema_table.SemaTable.acquire_between_breaks.Given as goal

abbrev pub invariant-loop-turn : goal.invariant-loop-turn
invariant-loop-turn g l = TriesOn l.initial.seat l.fn.counter l.seat
