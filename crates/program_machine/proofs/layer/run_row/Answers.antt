use Rattle.program_machine.proofs.Running.{row_ran, row_refused}
use Rattle.program_machine.proofs.layer.run_row.Goals as goal

pub returns-in-Ok-clause-row : goal.returns-in-Ok-clause-row
returns-in-Ok-clause-row c =
    row_ran c.args.layer.now c.step.new.self c.after_row.new.layer c.args.seat c.args.line c.in-Ok.field-0 c.in-Ok.ensures.ran c.in-Ok.ensures.can
    c.after_row.ensures.settled c.after_row.result c.after_row.ensures.next

pub returns-in-Err-clause-why : goal.returns-in-Err-clause-why
returns-in-Err-clause-why c = row_refused c.args.layer.now c.args.seat c.args.line c.in-Err.cause c.in-Err.ensures.why
