use Rattle.std.proofs.Common.{sym, arith, rules}
use Rattle.std.specs.Prelude.{map}
use Rattle.scenario_text.specs.Phrases.{line_of}
use Rattle.scenario_text.specs.Pieces.{Piece}
use Rattle.scenario_text.proofs.Judging.{flawed, right}
use Rattle.scenario_text.proofs.reader.judge.judge.Goals as goal

pub returns-in-Some-flaw : goal.returns-in-Some-flaw
returns-in-Some-flaw c = let p : Piece = record { text = c.args.bytes.now; ended = c.args.ended } in let e = c.in-Some-flaw.ensures in
    let h = c.in-Ok-Some.ensures in let k = c.in-Some.ensures in let b = c.if-not-ended.false in
    flawed (map line_of c.args.before.now) p (line_of c.in-Ok-Some.line) c.in-Some-flaw.cause (λ f. grind arith) c.in-Some.ensures.1
    (rw (c.in-Some.ensures.0, c.in-Ok-Some.field-0-is) at c.in-Ok-Some.ensures) (sym c.in-Some-flaw.ensures)

pub returns-in-None : goal.returns-in-None
returns-in-None c = let p : Piece = record { text = c.args.bytes.now; ended = c.args.ended } in
    right (map line_of c.args.before.now) p (line_of c.in-Ok-Some.line) (λ f. grind arith) c.in-Some.ensures.1
    (rw (c.in-Some.ensures.0, c.in-Ok-Some.field-0-is) at c.in-Ok-Some.ensures) (sym c.in-None.ensures)

pub returns-then-not-ended : goal.returns-then-not-ended
returns-then-not-ended c = search rules
