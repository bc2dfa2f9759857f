use Rattle.scenario_text.specs.Pieces.{Piece}
use Rattle.program.specs.Causes.{map_ok}
use Rattle.program.proofs.Judging.{judged, misjudged}
use Rattle.program.proofs.reader.read_line.Goals as goal

pub returns-in-Ok-clause-judged : goal.returns-in-Ok-clause-judged
returns-in-Ok-clause-judged c =
    let p : Piece = record { text = c.args.bytes.now; ended = c.args.ended } in
    judged c.args.draft.now c.args.number p c.in-Ok.line (map_ok (λ _. c.take.new.self) c.take.result) c.in-Ok.ensures c.take.ensures.answer

pub returns-in-Err-clause-judged : goal.returns-in-Err-clause-judged
returns-in-Err-clause-judged c =
    let p : Piece = record { text = c.args.bytes.now; ended = c.args.ended } in
    misjudged c.args.draft.now c.args.number p c.in-Err.cause c.in-Err.ensures
