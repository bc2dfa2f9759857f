use Rattle.std.proofs.Common.{◌<◌, ℕ, IfSome, slice_get, take}
use Rattle.step_table.specs.Scenario.{IsTicketCall, SkipsKeepTickets}
use Rattle.step_core.proofs.scenario.are_tickets_kept.Given as goal

abbrev pub invariant-loop-i : goal.invariant-loop-i
invariant-loop-i l =
    (k : ℕ) → k < l.i → IfSome (slice_get l.calls k) (λ call. IsTicketCall (take k l.calls) call × SkipsKeepTickets l.calls k call)
