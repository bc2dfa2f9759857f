use Rattle.std.proofs.Common.{rules, FitsSigned, w64, ◌+◌, Some, ap, sym, ◌∙◌}
use Rattle.std.proofs.lemmas.Int.{to_z-of_z}
use Rattle.program_steps.specs.Going.{at_line, with_register, after_line}
use Rattle.program_steps.specs.Numbers.{computed}
use Rattle.program_rows.specs.Stored.{seat_of}
use Rattle.program_rows.proofs.seat.Seat.advance.Goals as goal

pub returns-in-Let-clause-seat : goal.returns-in-Let-clause-seat
returns-in-Let-clause-seat c =
    let fits : FitsSigned w64 c.value-number.result = search rules in
    ap (λ s. at_line s (c.args.line + 1)) c.keep.ensures.seat
    ∙ (λ j. at_line
    (with_register (seat_of c.args.self.now) (Some c.in-Let.register) (to_z-of_z w64 c.value-number.result fits j)) (c.args.line + 1))
    ∙ (λ j. at_line (with_register (seat_of c.args.self.now) (Some c.in-Let.register) (c.value-number.ensures j)) (c.args.line + 1))
    ∙ ap (after_line c.args.me (seat_of c.args.self.now) c.args.line) (sym c.in-Let.is)

pub returns-in-Compute-clause-seat : goal.returns-in-Compute-clause-seat
returns-in-Compute-clause-seat c =
    let first : FitsSigned w64 c.value.result = search rules in
    let second : FitsSigned w64 c.value-in-Compute.result = search rules in
    let made : FitsSigned w64 c.compute-number.result = search rules in
    ap (λ s. at_line s (c.args.line + 1)) c.keep-in-Compute.ensures.seat
    ∙ (λ j. at_line
    (with_register (seat_of c.args.self.now) (Some c.in-Compute.register) (to_z-of_z w64 c.compute-number.result made j)) (c.args.line + 1))
    ∙ (λ j. at_line
    (with_register (seat_of c.args.self.now) (Some c.in-Compute.register) (c.compute-number.ensures j)) (c.args.line + 1))
    ∙ (λ j. at_line
    (with_register (seat_of c.args.self.now) (Some c.in-Compute.register)
    (computed c.in-Compute.operator (to_z-of_z w64 c.value.result first j) (to_z-of_z w64 c.value-in-Compute.result second j))) (c.args.line + 1))
    ∙ (λ j. at_line
    (with_register (seat_of c.args.self.now) (Some c.in-Compute.register)
    (computed c.in-Compute.operator (c.value.ensures j) (c.value-in-Compute.ensures j))) (c.args.line + 1))
    ∙ ap (after_line c.args.me (seat_of c.args.self.now) c.args.line) (sym c.in-Compute.is)
