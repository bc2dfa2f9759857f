use Rattle.std.proofs.Common.{Some, None, inl, inr}
use Rattle.program_text.specs.declared.reader.verb.Verb.TheVariants as verb
use Rattle.program_text.specs.Words.{IsPlace, texts}
use Rattle.program_text.specs.Shapes.{AreOne}
use Rattle.program_text.proofs.Forms.{AreLifo, first, second, read}
use Rattle.program_text.proofs.reader.layer.read_acquire.Goals as goal

pub returns-in-Some : goal.returns-in-Some
returns-in-Some c = read verb.Acquire (texts c.args.words.now) (Some (inl (c.in-Some.place, record {})))
    (first AreLifo (AreOne IsPlace) (texts c.args.words.now) (c.in-Some.place, record {})
    (λ x r s. let e = r.words_are in let f = s.words_are in absurd cc) c.in-Some.ensures)

pub returns-in_default-one : goal.returns-in_default-one
returns-in_default-one c = read verb.Acquire (texts c.args.words.now) None
    (second AreLifo (AreOne IsPlace) (texts c.args.words.now) None c.in_default.ensures c.in_default-one.ensures)

pub returns : goal.returns
returns c = read verb.Acquire (texts c.args.words.now) (Some (inr c.in-Some-one.place))
    (second AreLifo (AreOne IsPlace) (texts c.args.words.now) (Some c.in-Some-one.place) c.in_default.ensures c.in-Some-one.ensures)
