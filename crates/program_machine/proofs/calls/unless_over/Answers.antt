use Rattle.std.proofs.Common.{[], ◌+◌, Ok, Err, cond, nat_lt, sym, ap, ◌∙◌}
use Rattle.program_steps.specs.declared.failure.Failure.TheVariants.{Overflow}
use Rattle.program_machine.proofs.calls.unless_over.Goals as goal

pub returns-then-has_room : goal.returns-then-has_room
returns-then-has_room c =
    λ own. sym (ap (λ b. cond b (Ok c.args.call) (Err Overflow))
    (ap (λ n. nat_lt (n + c.args.units) 4294967296) (sym (c.number.ensures [])) ∙ sym c.has_room.ensures ∙ c.if-has_room.true))

pub returns-else-has_room : goal.returns-else-has_room
returns-else-has_room c =
    λ own. sym (ap (λ b. cond b (Ok c.args.call) (Err Overflow))
    (ap (λ n. nat_lt (n + c.args.units) 4294967296) (sym (c.number.ensures [])) ∙ sym c.has_room.ensures ∙ c.if-has_room.false))
