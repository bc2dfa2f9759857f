use Rattle.program_rows.proofs.Clearing.{ClearedUpTo}
use Rattle.program_rows.proofs.seat.Seat.clear.Given as goal

abbrev pub invariant-loop-register : goal.invariant-loop-register
invariant-loop-register l = ClearedUpTo l.in_use l.stand l.fn.self l.self l.register
