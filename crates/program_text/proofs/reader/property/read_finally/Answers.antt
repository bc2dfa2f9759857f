use Rattle.std.proofs.Common.{◌≡◌, true, Some, None}
use Rattle.program_code.specs.Signs.{IsRelation}
use Rattle.program_text.specs.declared.reader.verb.Verb.TheVariants as verb
use Rattle.program_text.specs.Words.{IsOperand, IsPlace, texts}
use Rattle.program_text.specs.Lines.{is_fixed, is_fixed_index}
use Rattle.program_text.specs.Shapes.{AreThree}
use Rattle.program_text.proofs.Forms.{IsFinal, kept, none_kept, not_kept, read}
use Rattle.program_text.proofs.reader.property.read_finally.Goals as goal

pub returns-in_default : goal.returns-in_default
returns-in_default c = read verb.Finally (texts c.args.words.now) None
    (none_kept (AreThree IsPlace IsRelation IsOperand) IsFinal (texts c.args.words.now) c.in_default.ensures)

pub returns-then-not-is_fixed_index : goal.returns-then-not-is_fixed_index
returns-then-not-is_fixed_index c = read verb.Finally (texts c.args.words.now) None
    (not_kept (AreThree IsPlace IsRelation IsOperand) IsFinal (texts c.args.words.now) (c.in-Some.place, c.in-Some.relation, c.in-Some.value)
    c.in-Some.ensures (λ k. let s = k.0 in let e = c.is_fixed_index.ensures in let f = c.if-not-is_fixed_index.true in cc))

pub returns-then-not-is_fixed : goal.returns-then-not-is_fixed
returns-then-not-is_fixed c = read verb.Finally (texts c.args.words.now) None
    (not_kept (AreThree IsPlace IsRelation IsOperand) IsFinal (texts c.args.words.now) (c.in-Some.place, c.in-Some.relation, c.in-Some.value)
    c.in-Some.ensures (λ k. let s = k.1 in let e = c.is_fixed.ensures in let f = c.if-not-is_fixed.true in cc))

pub returns : goal.returns
returns c =
    let index : is_fixed_index c.in-Some.place.index ≡ true = let e = c.is_fixed_index.ensures in let f = c.if-not-is_fixed_index.false in cc in
    let value : is_fixed c.in-Some.value ≡ true = let e = c.is_fixed.ensures in let f = c.if-not-is_fixed.false in cc in
    read verb.Finally (texts c.args.words.now) (Some (c.in-Some.place, c.in-Some.relation, c.in-Some.value))
    (kept (AreThree IsPlace IsRelation IsOperand) IsFinal (texts c.args.words.now) (c.in-Some.place, c.in-Some.relation, c.in-Some.value)
    c.in-Some.ensures (index, value))
