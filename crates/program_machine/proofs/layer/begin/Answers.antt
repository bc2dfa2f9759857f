use Rattle.std.proofs.Common.{rules, Result, Ok, Err, IfErr, OnErr}
use Rattle.program_machine.proofs.Running.{first_row_ran, first_row_refused, held_back, not_refused}
use Rattle.program_machine.proofs.Lines.{on_ok, on_err}
use Rattle.program_machine.proofs.layer.begin.Goals as goal

pub returns-then-not-can_begin-clause-why : goal.returns-then-not-can_begin-clause-why
returns-then-not-can_begin-clause-why c =
    held_back c.args.layer.now c.args.seat c.args.call c.can_begin.result (search rules) c.can_begin.ensures c.requires.may c.args.line

never_err : {A B : Type 0} (P : B → Type 0) (Q : Type 0) → ((b : B) → P b → ⊥) → (r : Result A B) → IfErr r P → OnErr r Q
never_err P Q f (Ok a) is = tt
never_err P Q f (Err b) is = absurd (f b is)

pub returns-clause-row : goal.returns-clause-row
returns-clause-row c =
    on_ok _ _ (λ next row. first_row_ran c.args.layer.now c.call.new.self c.args.seat c.args.call c.call.ensures c.args.line c.run_row.new.layer next row)
    c.run_row.result c.run_row.ensures.row

pub returns-clause-err : goal.returns-clause-err
returns-clause-err c =
    never_err _ _ (λ cause none. not_refused c.args.layer.now c.args.seat c.args.call c.can_begin.result (search rules)
    c.can_begin.ensures c.requires.may c.args.line
    (first_row_refused c.args.layer.now c.call.new.self c.args.seat c.args.call c.call.ensures c.args.line none)) c.run_row.result c.run_row.ensures.why

pub returns-clause-why : goal.returns-clause-why
returns-clause-why c =
    on_err _ _ (λ cause none. first_row_refused c.args.layer.now c.call.new.self c.args.seat c.args.call c.call.ensures c.args.line none)
    c.run_row.result c.run_row.ensures.why
