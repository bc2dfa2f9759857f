use Rattle.std.proofs.Common.{◌+◌, List, sym, subst, arith}
use Rattle.std.proofs.lemmas.List.{nil_from_length}
use Rattle.scenario_text.specs.Pieces.{Piece}
use Rattle.program_text.specs.declared.lines.SpelledLine.{SpelledLine}
use Rattle.program_text.proofs.Texts.{SoFar, begins, turn, failed, lines_are, faultless}
use Rattle.program_text.proofs.text_reader.read_lines.Goals as goal

pub loop-rest-init : goal.loop-rest-init
loop-rest-init c = subst (λ (ls : List SpelledLine). SoFar c.args.text.now c.args.text.now ls) (sym c.new-lines.ensures.items) (begins c.args.text.now)

pub returns-in-Err-clause-fault : goal.returns-in-Err-clause-fault
returns-in-Err-clause-fault c =
    let p : Piece = record { text = c.first_line-ended.result.0.now; ended = c.first_line-ended.result.2 } in
    failed c.args.text.now c.loop-rest.rest.now c.first_line-ended.result.1.now c.loop-rest.lines.items p (c.len-number.result + 1) c.in-Err.cause
    (grind arith) c.loop-rest.invariant c.first_line-ended.ensures.line c.in-Err.ensures.fault

pub loop-rest-preserved : goal.loop-rest-preserved
loop-rest-preserved c =
    let p : Piece = record { text = c.first_line-ended.result.0.now; ended = c.first_line-ended.result.2 } in
    let put = c.in-Ok.ensures.put in
    subst (λ (ls : List SpelledLine). SoFar c.args.text.now c.first_line-ended.result.1.now ls) (sym put.1)
    (turn c.args.text.now c.loop-rest.rest.now c.first_line-ended.result.1.now c.loop-rest.lines.items p put.0 c.loop-rest.invariant
    c.first_line-ended.ensures.line put.2)

pub returns-clause-lines : goal.returns-clause-lines
returns-clause-lines c = lines_are c.args.text.now c.loop-rest.rest.now c.loop-rest.lines.items c.loop-rest.invariant
    (nil_from_length c.loop-rest.rest.now (grind arith))

pub returns-clause-faultless : goal.returns-clause-faultless
returns-clause-faultless c = faultless c.args.text.now c.loop-rest.rest.now c.loop-rest.lines.items c.loop-rest.invariant
    (nil_from_length c.loop-rest.rest.now (grind arith))
