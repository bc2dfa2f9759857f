use Rattle.std.proofs.Common.{[], refl}
use Rattle.journal.proofs.Cutting.{cut_at, cut_none}
use Rattle.journal.proofs.reader.cutting.first_line.Goals as goal

pub returns-in-Some-clause-line : goal.returns-in-Some-clause-line
returns-in-Some-clause-line c =
    cut_at c.args.text.now c.split_at.result.0.now c.split_at.result.1.now c.in-Some.end c.in-Some.ensures.at c.split_at.ensures.front c.split_at.ensures.back

pub returns-in-None-clause-line : goal.returns-in-None-clause-line
returns-in-None-clause-line c = cut_none c.args.text.now [] c.in-None.ensures.at c.requires refl
