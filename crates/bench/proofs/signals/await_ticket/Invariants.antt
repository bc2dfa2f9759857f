use Rattle.std.proofs.Common.{◌≡◌}
use Rattle.bench.proofs.signals.await_ticket.Given as goal

abbrev pub invariant-loop : goal.invariant-loop
invariant-loop g l = l.seat.list ≡ l.fn.list
