use Rattle.std.proofs.Common.{◌+◌, ◌-◌, length, take, drop, [], refl}
use Rattle.scenario_text.proofs.Cutting.{cut_at, cut_none, behind}
use Rattle.program_text.proofs.text_reader.pieces.first_line.Goals as goal

pub returns-in-Some-clause-line : goal.returns-in-Some-clause-line
returns-in-Some-clause-line c = cut_at c.args.text.now (take (length c.args.text.now - (c.in-Some.end + 1)) (drop
    (c.in-Some.end + 1) c.args.text.now)) c.in-Some.end c.in-Some.ensures.at (behind c.args.text.now (c.in-Some.end + 1))

pub returns-in-None-clause-line : goal.returns-in-None-clause-line
returns-in-None-clause-line c = cut_none c.args.text.now [] c.in-None.ensures.at c.requires refl
