use Rattle.std.proofs.Common.{take, refl, subst, below_more}
use Rattle.step_table.specs.Scenario.{IsTicketCall, SkipsKeepTickets, AreTicketsKept}
use Rattle.step_core.proofs.Skips.{each_kept, kept_here}
use Rattle.step_core.proofs.scenario.are_tickets_kept.Goals as goal

pub loop-i-preserved : goal.loop-i-preserved
loop-i-preserved c =
    let calls = c.as_slice-calls.result.now in
    let i = c.loop-i.i in
    below_more _ _ c.loop-i.invariant
    (kept_here calls i c.index-calls-i.result (λ call. IsTicketCall (take i calls) call × SkipsKeepTickets calls i call)
    c.loop-i-test.true c.index-calls-i.is
    (c.is_ticket_call.ensures.0 c.if-not-is_ticket_call.false, c.keep_skips_tickets.ensures.0 c.if-not-keep_skips_tickets.false))

pub returns : goal.returns
returns c =
    let calls = c.as_slice-calls.result.now in (
      (λ t. subst AreTicketsKept c.as_slice-calls.ensures
          (each_kept calls c.loop-i.i (λ k call. IsTicketCall (take k calls) call × SkipsKeepTickets calls k call) c.loop-i-test.false c.loop-i.invariant)),
      (λ h. refl),
    )
