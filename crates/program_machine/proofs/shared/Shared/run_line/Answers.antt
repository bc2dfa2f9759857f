use Rattle.std.proofs.Common.{Some, ap, ◌∙◌}
use Rattle.program_machine.specs.Shared.{Shared, world_at}
use Rattle.program_steps.specs.Calls.{call_of}
use Rattle.program_machine.proofs.Lines.{can_inside, before_inside, run_outside, none_outside, on_ok, on_err}
use Rattle.program_machine.proofs.Lines.{own_ran, line_fails, call_may, call_may_begin, call_may_run, call_ran, call_refused}
use Rattle.program_machine.proofs.shared.Shared.run_line.Goals as goal

pub begin-requires-clause-may : goal.begin-requires-clause-may
begin-requires-clause-may c =
    call_may c.args.program.now (record { layer = c.self.inside.layer; own = c.self.inside.own }) c.args.seat
    (can_inside c.args.program.now c.args.seat _ _ c.self.view_is c.requires.can)
    c.args.line c.args.instruction.now (before_inside c.args.program.now c.args.seat _ _ c.self.view_is c.args.line c.args.instruction.now c.requires.before)
    c.call_of.result c.call_of.ensures
    c.in-Some-Ok.call (c.in-Some-Ok.is ∙ ap Some c.in-Some-Ok.field-0-is)

pub begin-requires-clause-call : goal.begin-requires-clause-call
begin-requires-clause-call c =
    call_may_begin c.args.program.now (record { layer = c.self.inside.layer; own = c.self.inside.own }) c.args.seat
    (can_inside c.args.program.now c.args.seat _ _ c.self.view_is c.requires.can)
    c.args.line c.args.instruction.now (before_inside c.args.program.now c.args.seat _ _ c.self.view_is c.args.line c.args.instruction.now c.requires.before)
    c.call_of.result c.call_of.ensures
    c.in-Some-Ok.call (c.in-Some-Ok.is ∙ ap Some c.in-Some-Ok.field-0-is)

pub begin-requires-clause-first : goal.begin-requires-clause-first
begin-requires-clause-first c =
    call_may_run c.args.program.now (record { layer = c.self.inside.layer; own = c.self.inside.own }) c.args.seat
    (can_inside c.args.program.now c.args.seat _ _ c.self.view_is c.requires.can)
    c.args.line c.args.instruction.now (before_inside c.args.program.now c.args.seat _ _ c.self.view_is c.args.line c.args.instruction.now c.requires.before)
    c.call_of.result c.call_of.ensures
    c.in-Some-Ok.call (c.in-Some-Ok.is ∙ ap Some c.in-Some-Ok.field-0-is)

pub returns-in-None-clause-row : goal.returns-in-None-clause-row
returns-in-None-clause-row c =
    on_ok _ _ (λ then does. run_outside c.args.program.now c.args.seat _ _ c.self.view_is _ then
    (own_ran c.args.program.now (record { layer = c.self.inside.layer; own = c.self.inside.own }) c.args.seat
    (can_inside c.args.program.now c.args.seat _ _ c.self.view_is c.requires.can)
    c.args.line c.args.instruction.now (before_inside c.args.program.now c.args.seat _ _ c.self.view_is c.args.line c.args.instruction.now c.requires.before)
    c.call_of.result c.call_of.ensures
    c.in-None.is c.row_of_line.new.self then does)) c.row_of_line.result c.row_of_line.ensures.row

pub returns-in-Some-Ok-clause-row : goal.returns-in-Some-Ok-clause-row
returns-in-Some-Ok-clause-row c =
    on_ok _ _ (λ then row. run_outside c.args.program.now c.args.seat _ _ c.self.view_is _ then
    (call_ran c.args.program.now (record { layer = c.self.inside.layer; own = c.self.inside.own }) c.args.seat
    (can_inside c.args.program.now c.args.seat _ _ c.self.view_is c.requires.can)
    c.args.line c.args.instruction.now (before_inside c.args.program.now c.args.seat _ _ c.self.view_is c.args.line c.args.instruction.now c.requires.before)
    c.call_of.result c.call_of.ensures
    c.in-Some-Ok.call (c.in-Some-Ok.is ∙ ap Some c.in-Some-Ok.field-0-is) c.begin.new.layer then row c.begin.ensures.size)) c.begin.result c.begin.ensures.row

pub returns-in-Some-Ok-clause-why : goal.returns-in-Some-Ok-clause-why
returns-in-Some-Ok-clause-why c =
    on_err _ _ (λ cause none other. none_outside c.args.program.now c.args.seat _ _ c.self.view_is
    (call_refused c.args.program.now (record { layer = c.self.inside.layer; own = c.self.inside.own }) c.args.seat
    (can_inside c.args.program.now c.args.seat _ _ c.self.view_is c.requires.can)
    c.args.line c.args.instruction.now (before_inside c.args.program.now c.args.seat _ _ c.self.view_is c.args.line c.args.instruction.now c.requires.before)
    c.call_of.result c.call_of.ensures
    c.in-Some-Ok.call (c.in-Some-Ok.is ∙ ap Some c.in-Some-Ok.field-0-is) none)) c.begin.result c.begin.ensures.why

pub returns-in-Some-Err-clause-row : goal.returns-in-Some-Err-clause-row
returns-in-Some-Err-clause-row c =
    line_fails c.args.program.now c.args.self.now c.args.seat c.requires.can c.args.line c.args.instruction.now c.requires.before
    c.call_of.result (c.call_of.ensures ∙ ap (λ (s : Shared). call_of (world_at s.layer s.own) c.args.seat c.args.instruction.now) c.self.view_is)
    c.in-Some-Err.failure (c.in-Some-Err.is ∙ ap Some c.in-Some-Err.field-0-is)
