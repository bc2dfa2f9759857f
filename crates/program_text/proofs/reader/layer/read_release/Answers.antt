use Rattle.std.proofs.Common.{Some, None, inl, inr}
use Rattle.program_text.specs.declared.reader.verb.Verb.TheVariants as verb
use Rattle.program_text.specs.Words.{IsPlace, texts}
use Rattle.program_text.specs.Shapes.{AreOne}
use Rattle.program_text.proofs.Forms.{AreHandoff, AreMany, AreSome, handoff_apart, first, second, read}
use Rattle.program_text.proofs.reader.layer.read_release.Goals as goal

pub returns-in-Some : goal.returns-in-Some
returns-in-Some c = read verb.Release (texts c.args.words.now) (Some (inl (c.in-Some.place, record {})))
    (first AreHandoff AreSome (texts c.args.words.now) (c.in-Some.place, record {}) (handoff_apart (texts c.args.words.now) (c.in-Some.place, record {}))
    c.in-Some.ensures)

pub returns-in-Some-three : goal.returns-in-Some-three
returns-in-Some-three c = read verb.Release (texts c.args.words.now) (Some (inr (inl (c.in-Some-three.place, record {}, c.in-Some-three.units))))
    (second AreHandoff AreSome (texts c.args.words.now) (Some (inl (c.in-Some-three.place, record {}, c.in-Some-three.units))) c.in_default.ensures
    (first AreMany (AreOne IsPlace) (texts c.args.words.now) (c.in-Some-three.place, record {}, c.in-Some-three.units)
    (λ x r s. let e = r.words_are in let f = s.words_are in absurd cc) c.in-Some-three.ensures))

pub returns-in_default-one : goal.returns-in_default-one
returns-in_default-one c = read verb.Release (texts c.args.words.now) None
    (second AreHandoff AreSome (texts c.args.words.now) None c.in_default.ensures
    (second AreMany (AreOne IsPlace) (texts c.args.words.now) None c.in_default-three.ensures c.in_default-one.ensures))

pub returns : goal.returns
returns c = read verb.Release (texts c.args.words.now) (Some (inr (inr c.in-Some-one.place)))
    (second AreHandoff AreSome (texts c.args.words.now) (Some (inr c.in-Some-one.place)) c.in_default.ensures
    (second AreMany (AreOne IsPlace) (texts c.args.words.now) (Some c.in-Some-one.place) c.in_default-three.ensures c.in-Some-one.ensures))
