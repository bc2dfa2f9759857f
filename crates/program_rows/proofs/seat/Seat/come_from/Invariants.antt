use Rattle.program_rows.proofs.Coming.{HasCome}
use Rattle.program_rows.proofs.seat.Seat.come_from.Given as goal

abbrev pub invariant-loop : goal.invariant-loop
invariant-loop l = HasCome l.code l.me l.fn.self l.line l.counter l.self
