use Rattle.std.proofs.Common.{ap, inl, inr}
use Rattle.sema_table.specs.Seats.{SeatModel}
use Rattle.sema_table_crew.proofs.Ending.{released_keeps}
use Rattle.sema_table_crew.proofs.work.release.Goals as goal

pub returns-in-Ok-clause-same : goal.returns-in-Ok-clause-same
returns-in-Ok-clause-same g c =
    let kept = released_keeps c.args.seat c.in-Ok.seat c.args.counter c.args.handoff c.in-Ok.field-0-1 c.in-Ok.ensures.caller in (kept.table, kept.number)

pub returns-in-Ok-clause-released : goal.returns-in-Ok-clause-released
returns-in-Ok-clause-released g c = inl (c.in-Ok.field-0-1, c.in-Ok.ensures.caller)

pub returns-in-Err-clause-same : goal.returns-in-Err-clause-same
returns-in-Err-clause-same g c = let is = c.in-Err.ensures.caller.1 in (ap (λ (s : SeatModel). s.table) is, ap (λ (s : SeatModel). s.number) is)

pub returns-in-Err-clause-released : goal.returns-in-Err-clause-released
returns-in-Err-clause-released g c = inr (c.in-Err.ensures.caller.0, c.in-Err.ensures.caller.1)
