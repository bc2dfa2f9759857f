use Rattle.std.proofs.Common.{Some, None}
use Rattle.std.specs.Prelude.{codes}
use Rattle.scenario_text.proofs.Parts.{stripped_end}
use Rattle.program_text.proofs.Spelling.{place_plain, place_no_name, place_indexed, place_bad_name, place_open, place_bad_index}
use Rattle.program_text.proofs.reader.operand.read_place.Goals as goal

pub returns-in_default-read_name : goal.returns-in_default-read_name
returns-in_default-read_name c = place_no_name c.args.word.now c.in_default.ensures.cases c.in_default-read_name.ensures

pub returns-in_default : goal.returns-in_default
returns-in_default c = place_plain c.args.word.now c.in-Some-read_name.name c.in_default.ensures.cases c.in-Some-read_name.ensures

pub returns-in_default-read_name-2 : goal.returns-in_default-read_name-2
returns-in_default-read_name-2 c = place_bad_name c.args.word.now (c.in-Some.name, c.in-Some.rest) c.in-Some.ensures.cases c.in_default-read_name-2.ensures

pub returns-in_default-strip_suffix : goal.returns-in_default-strip_suffix
returns-in_default-strip_suffix c = place_open c.args.word.now (
  c.in-Some.name,
  c.in-Some.rest,
) c.in-Some.ensures.cases (stripped_end (codes "]") c.in-Some.rest.now None c.in_default-strip_suffix.ensures.cases)

pub returns-in_default-read_operand : goal.returns-in_default-read_operand
returns-in_default-read_operand c =
    place_bad_index c.args.word.now c.in-Some-strip_suffix.index.now (c.in-Some.name, c.in-Some.rest) c.in-Some.ensures.cases
    (stripped_end (codes "]") c.in-Some.rest.now (Some c.in-Some-strip_suffix.index) c.in-Some-strip_suffix.ensures.cases) c.in_default-read_operand.ensures

pub returns : goal.returns
returns c =
    place_indexed c.args.word.now c.in-Some-strip_suffix.index.now (
      c.in-Some.name,
      c.in-Some.rest,
    ) c.in-Some-read_name-2.name c.in-Some-read_operand.index c.in-Some.ensures.cases c.in-Some-read_name-2.ensures
    (stripped_end (codes "]") c.in-Some.rest.now (Some c.in-Some-strip_suffix.index) c.in-Some-strip_suffix.ensures.cases) c.in-Some-read_operand.ensures
