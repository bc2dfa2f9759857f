use Rattle.std.proofs.Common.{sym, ap, ◌∙◌, cond}
use Rattle.program_steps.specs.declared.stand.Stand.TheVariants.{Before}
use Rattle.program_steps.specs.declared.stand.Then.TheVariants.{Stands}
use Rattle.program_steps.specs.Steps.{after_call}
use Rattle.step_rows.specs.Stored.{each}
use Rattle.step_table.specs.declared.standing.Standing.TheVariants.{Rest}
use Rattle.program_machine.proofs.Running.{is_told, settles_up, settles_not}
use Rattle.program_machine.proofs.layer.after_row.Goals as goal

pub returns-then-is_to_acquire-clause-settled : goal.returns-then-is_to_acquire-clause-settled
returns-then-is_to_acquire-clause-settled c =
    settles_up c.args.layer.now c.give_up.new.self c.args.seat c.give_up.ensures
    (λ journal. sym (is_told _ c.is_to_acquire.result (c.is_to_acquire.ensures journal)) ∙ c.if-is_to_acquire.true)

pub returns-then-is_to_acquire-clause-next : goal.returns-then-is_to_acquire-clause-next
returns-then-is_to_acquire-clause-next c =
    λ journal. sym (ap (λ b. cond b (Stands (Before c.args.line)) (after_call c.args.line (each Rest c.args.layer.now.standing c.args.seat)))
    (sym (is_told _ c.is_to_acquire.result (c.is_to_acquire.ensures journal)) ∙ c.if-is_to_acquire.true))

pub returns-clause-settled : goal.returns-clause-settled
returns-clause-settled c =
    settles_not c.args.layer.now c.args.seat
    (λ journal. sym (is_told _ c.is_to_acquire.result (c.is_to_acquire.ensures journal)) ∙ c.if-is_to_acquire.false)

pub returns-clause-next : goal.returns-clause-next
returns-clause-next c =
    λ journal. c.after_call.ensures ∙ ap (after_call c.args.line) c.doing.ensures
    ∙ sym (ap (λ b. cond b (Stands (Before c.args.line)) (after_call c.args.line (each Rest c.args.layer.now.standing c.args.seat)))
    (sym (is_told _ c.is_to_acquire.result (c.is_to_acquire.ensures journal)) ∙ c.if-is_to_acquire.false))
