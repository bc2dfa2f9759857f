use Rattle.std.proofs.Common.{Some, None, inl, inr}
use Rattle.program_code.specs.Signs.{IsOperator}
use Rattle.program_text.specs.declared.reader.verb.Verb.TheVariants as verb
use Rattle.program_text.specs.Words.{IsName, IsOperand, texts}
use Rattle.program_text.specs.Shapes.{AreTwo, AreFour}
use Rattle.program_text.proofs.Forms.{first, second, read}
use Rattle.program_text.proofs.reader.flow.read_let.Goals as goal

pub returns-in-Some : goal.returns-in-Some
returns-in-Some c = read verb.Let (texts c.args.words.now) (Some (inl (c.in-Some.register, c.in-Some.first, c.in-Some.operator, c.in-Some.second)))
    (first (AreFour IsName IsOperand IsOperator IsOperand) (AreTwo IsName IsOperand) (texts c.args.words.now)
    (c.in-Some.register, c.in-Some.first, c.in-Some.operator, c.in-Some.second)
    (λ x r s. let e = r.words_are in let f = s.words_are in absurd cc) c.in-Some.ensures)

pub returns-in_default-two : goal.returns-in_default-two
returns-in_default-two c = read verb.Let (texts c.args.words.now) None
    (second (AreFour IsName IsOperand IsOperator IsOperand) (AreTwo IsName IsOperand) (texts c.args.words.now) None
    c.in_default.ensures c.in_default-two.ensures)

pub returns : goal.returns
returns c = read verb.Let (texts c.args.words.now) (Some (inr (c.in-Some-two.register, c.in-Some-two.operand)))
    (second (AreFour IsName IsOperand IsOperator IsOperand) (AreTwo IsName IsOperand) (texts c.args.words.now)
    (Some (c.in-Some-two.register, c.in-Some-two.operand)) c.in_default.ensures c.in-Some-two.ensures)
