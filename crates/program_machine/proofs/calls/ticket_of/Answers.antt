use Rattle.std.proofs.Common.{[], Ok, Err, cond, sym, ap, ◌∙◌}
use Rattle.program_steps.specs.declared.failure.Failure.TheVariants.{Ticket}
use Rattle.step_table.specs.declared.call.Call.TheVariants.{Add}
use Rattle.program_machine.proofs.calls.ticket_of.Goals as goal

pub returns-then-holds_ticket : goal.returns-then-holds_ticket
returns-then-holds_ticket c =
    λ own. sym (ap (λ b. cond b (Err Ticket) (Ok (Add c.args.list))) (sym (c.holds_ticket.ensures []) ∙ c.if-holds_ticket.true))

pub returns-else-holds_ticket : goal.returns-else-holds_ticket
returns-else-holds_ticket c =
    λ own. sym (ap (λ b. cond b (Err Ticket) (Ok (Add c.args.list))) (sym (c.holds_ticket.ensures []) ∙ c.if-holds_ticket.false))
