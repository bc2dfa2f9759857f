use Rattle.std.proofs.Common.{◌≡◌, take}
use Rattle.scenario_text.specs.Causes.{has_ticket}
use Rattle.scenario_text.proofs.reader.tickets.holds_ticket.Given as goal

abbrev pub invariant-loop-call : goal.invariant-loop-call
invariant-loop-call l = l.held ≡ has_ticket l.list (take l.call-index l.calls)
