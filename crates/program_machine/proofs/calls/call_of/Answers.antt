use Rattle.std.proofs.Common.{rules, ◌≡◌, Ok, Err, Some, cond, sym, ap, ◌∙◌}
use Rattle.program_machine.specs.Shared.{world_at}
use Rattle.program_steps.specs.declared.failure.Failure.TheVariants.{Ticket}
use Rattle.program_steps.specs.Calls.{call_of, holds_ticket}
use Rattle.step_table.specs.declared.call.Call.TheVariants.{Add, Wait}
use Rattle.program_machine.proofs.calls.call_of.Goals as goal

pub returns-in-Ticket : goal.returns-in-Ticket
returns-in-Ticket c =
    let list : c.new.result ≡ c.in-Ticket.list = search rules in
    ap Some (c.ticket_of.ensures c.args.own.now)
    ∙ (λ j. Some (cond (holds_ticket (world_at c.args.layer.now c.args.own.now) c.args.seat (list j)) (Err Ticket) (Ok (Add (list j)))))
    ∙ ap (call_of (world_at c.args.layer.now c.args.own.now) c.args.seat) (sym c.in-Ticket.is)

pub returns-in-Wait : goal.returns-in-Wait
returns-in-Wait c =
    let list : c.new-in-Wait.result ≡ c.in-Wait.list = search rules in
    ap Some (c.wait_of.ensures c.args.own.now)
    ∙ (λ j. Some (cond (holds_ticket (world_at c.args.layer.now c.args.own.now) c.args.seat (list j)) (Ok (Wait (list j))) (Err Ticket)))
    ∙ ap (call_of (world_at c.args.layer.now c.args.own.now) c.args.seat) (sym c.in-Wait.is)
