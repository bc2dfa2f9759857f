use Rattle.std.proofs.Common.{Ok, ap, inl, inr, ◌∙◌}
use Rattle.sema_table.specs.declared.many_seat.PostedMany.TheVariants.{Done, Owes}
use Rattle.sema_table.specs.Seats.{SeatModel}
use Rattle.sema_table.specs.CallersReleasing.{PostsUnits}
use Rattle.sema_table_crew.proofs.work.release_two.Goals as goal

pub returns-in-Ok-Done-clause-same : goal.returns-in-Ok-Done-clause-same
returns-in-Ok-Done-clause-same g c =
    let e = c.in-Ok-Done in let posted : PostsUnits c.args.seat c.args.counter 2 (Ok (Done e.seat)) = rw e.field-0-is at e.ensures.caller in
    (posted.0.table, posted.0.number)

pub returns-in-Ok-Done-clause-released : goal.returns-in-Ok-Done-clause-released
returns-in-Ok-Done-clause-released g c = let e = c.in-Ok-Done in inl (rw e.field-0-is at e.ensures.caller)

pub returns-in-Ok-Owes-clause-same : goal.returns-in-Ok-Owes-clause-same
returns-in-Ok-Owes-clause-same g c =
    let e = c.in-Ok-Owes in let posted : PostsUnits c.args.seat c.args.counter 2 (Ok (Owes e.owing)) = rw e.field-0-is at e.ensures.caller in
    let woken = c.wake_some.ensures.caller.3.after in (woken.table ∙ posted.0.table, woken.number ∙ posted.0.number)

pub returns-in-Ok-Owes-clause-released : goal.returns-in-Ok-Owes-clause-released
returns-in-Ok-Owes-clause-released g c =
    let e = c.in-Ok-Owes in let posted : PostsUnits c.args.seat c.args.counter 2 (Ok (Owes e.owing)) = rw e.field-0-is at e.ensures.caller in
    inr (inl (e.owing, c.wake_some.result.1, posted, c.wake_some.ensures.caller))

pub returns-in-Err-clause-same : goal.returns-in-Err-clause-same
returns-in-Err-clause-same g c = let is = c.in-Err.ensures.caller.1 in (ap (λ (s : SeatModel). s.table) is, ap (λ (s : SeatModel). s.number) is)

pub returns-in-Err-clause-released : goal.returns-in-Err-clause-released
returns-in-Err-clause-released g c = inr (inr (c.in-Err.ensures.caller.0, c.in-Err.ensures.caller.1))
