use Rattle.program_text.specs.Words.{texts}
use Rattle.program_text.proofs.Shaping.{cells, no_cells, bad_cells}
use Rattle.program_text.proofs.reader.shape.read_cells.Goals as goal

pub returns-in_default : goal.returns-in_default
returns-in_default c = no_cells (texts c.args.words.now) c.in_default.ensures

pub returns-then-not-is_sized : goal.returns-then-not-is_sized
returns-then-not-is_sized c = bad_cells (texts c.args.words.now) c.in-Some.place c.in-Some.value c.in-Some.ensures (λ s v. let e = c.is_sized.ensures in
    let f = c.if-not-is_sized.true in cc)

pub returns-then-not-is_fixed : goal.returns-then-not-is_fixed
returns-then-not-is_fixed c = bad_cells (texts c.args.words.now) c.in-Some.place c.in-Some.value c.in-Some.ensures (λ s v. let e = c.is_fixed.ensures in
    let f = c.if-not-is_fixed.true in cc)

pub returns : goal.returns
returns c = cells (texts c.args.words.now) c.in-Some.place c.in-Some.value c.in-Some.ensures (let e = c.is_sized.ensures in
    let f = c.if-not-is_sized.false in cc) (let e = c.is_fixed.ensures in let f = c.if-not-is_fixed.false in cc)
