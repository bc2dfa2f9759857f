use Rattle.std.proofs.Common.{Some, None, inl, inr}
use Rattle.program_code.specs.Signs.{IsRelation}
use Rattle.program_text.specs.declared.reader.verb.Verb.TheVariants as verb
use Rattle.program_text.specs.Words.{IsName, IsOperand, IsPlace, texts}
use Rattle.program_text.specs.Shapes.{AreThree, AreFour}
use Rattle.program_text.proofs.Forms.{first, second, read}
use Rattle.program_text.proofs.reader.access.read_await.Goals as goal

pub returns-in-Some : goal.returns-in-Some
returns-in-Some c = read verb.Await (texts c.args.words.now) (Some (inl (c.in-Some.place, c.in-Some.relation, c.in-Some.operand, c.in-Some.register)))
    (first (AreFour IsPlace IsRelation IsOperand IsName) (AreThree IsPlace IsRelation IsOperand) (texts c.args.words.now)
    (c.in-Some.place, c.in-Some.relation, c.in-Some.operand, c.in-Some.register)
    (λ x r s. let e = r.words_are in let f = s.words_are in absurd cc) c.in-Some.ensures)

pub returns-in_default-three : goal.returns-in_default-three
returns-in_default-three c = read verb.Await (texts c.args.words.now) None
    (second (AreFour IsPlace IsRelation IsOperand IsName) (AreThree IsPlace IsRelation IsOperand) (texts c.args.words.now)
    None c.in_default.ensures c.in_default-three.ensures)

pub returns : goal.returns
returns c = read verb.Await (texts c.args.words.now) (Some (inr (c.in-Some-three.place, c.in-Some-three.relation, c.in-Some-three.operand)))
    (second (AreFour IsPlace IsRelation IsOperand IsName) (AreThree IsPlace IsRelation IsOperand) (texts c.args.words.now)
    (Some (c.in-Some-three.place, c.in-Some-three.relation, c.in-Some-three.operand)) c.in_default.ensures c.in-Some-three.ensures)
