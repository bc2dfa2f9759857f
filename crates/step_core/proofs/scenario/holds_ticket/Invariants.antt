use Rattle.std.proofs.Common.{◌≡◌, drop}
use Rattle.step_table.specs.Scenario.{holds_ticket, holding_after}
use Rattle.step_core.proofs.scenario.holds_ticket.Given as goal

abbrev pub invariant-loop-call : goal.invariant-loop-call
invariant-loop-call l = holding_after l.list l.held (drop l.call-index l.calls) ≡ holds_ticket l.list l.calls
