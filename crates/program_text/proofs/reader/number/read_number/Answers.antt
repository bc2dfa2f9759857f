use Rattle.std.proofs.Common.{Some}
use Rattle.std.specs.Prelude.{codes}
use Rattle.scenario_text.proofs.Parts.{stripped_front}
use Rattle.program_text.proofs.Spelling.{number_plus, number_minus}
use Rattle.program_text.proofs.reader.number.read_number.Goals as goal

pub returns-in-Some : goal.returns-in-Some
returns-in-Some c = number_plus c.args.word.now c.in-Some.size c.in-Some.ensures

pub returns : goal.returns
returns c =
    number_minus c.args.word.now c.in-Some-strip_prefix.digits.now c.in-Some-read_digits.size c.in_default.ensures
    (stripped_front (codes "-") c.args.word.now
    (Some c.in-Some-strip_prefix.digits) c.in-Some-strip_prefix.ensures.cases) c.in-Some-read_digits.ensures c.if-size-eq0.false
