use Rattle.std.proofs.Common.{arith, rules, subst, sym}
use Rattle.scenario_text.specs.Pieces.{Piece}
use Rattle.program_text.specs.Answers.{Judges}
use Rattle.program_text.proofs.Judging.{judged}
use Rattle.program_text.proofs.text_reader.judge.judge.Goals as goal

pub returns-in-Ok : goal.returns-in-Ok
returns-in-Ok c = let p : Piece = record { text = c.args.bytes.now; ended = c.args.ended } in let b = c.if-not-ended.false in
    subst (Judges p) (sym c.ok_or.ensures.value)
    (judged p c.in-Ok.read (λ f. grind arith) c.in-Some.ensures.1 (rw c.in-Some.ensures.0 at c.in-Ok.ensures))

pub returns-then-not-ended : goal.returns-then-not-ended
returns-then-not-ended c = search rules
