use Rattle.std.proofs.Common.{ℕ, List, [], Bor}
use Rattle.program_text.specs.Words.{texts}
use Rattle.program_text.proofs.Parts.{texts_four, four_reads}
use Rattle.program_text.proofs.reader.part.four.Goals as goal

pub returns : goal.returns
returns g c =
    let none : Bor (List ℕ) = record { ref_ptr = (0, 0); now = [] } in
    four_reads g.A.LinePart.says g.B.LinePart.says g.C.LinePart.says g.D.LinePart.says
    (texts c.args.words.now) _ _ _ _ c.in-Some.first c.in-Some-read.second c.in-Some-read-2.third c.in-Some-read-3.fourth
    (texts_four c.args.words.now none none none none c.if-words-ne4.false) c.in-Some.ensures c.in-Some-read.ensures c.in-Some-read-2.ensures
    c.in-Some-read-3.ensures
