use Rattle.std.proofs.Common.{◌≡◌, take, drop, []}
use Rattle.scenario_text.specs.Causes.{misuses_ticket}
use Rattle.scenario_text.proofs.reader.tickets.misuses_ticket.Given as goal

abbrev pub invariant-loop-i : goal.invariant-loop-i
invariant-loop-i l = misuses_ticket (take l.i l.calls) (drop l.i l.calls) ≡ misuses_ticket [] l.calls
