use Rattle.program_text.specs.Words.{texts}
use Rattle.program_text.proofs.Shaping.{access_three, access_two, no_access}
use Rattle.program_text.proofs.reader.shape.read_access.Goals as goal

pub returns-in-Some : goal.returns-in-Some
returns-in-Some c = access_three (texts c.args.words.now) c.in-Some.place c.in-Some.operand c.in-Some.register c.in-Some.ensures

pub returns-in_default-two : goal.returns-in_default-two
returns-in_default-two c = no_access (texts c.args.words.now) c.in_default.ensures c.in_default-two.ensures

pub returns : goal.returns
returns c = access_two (texts c.args.words.now) c.in-Some-two.place c.in-Some-two.operand c.in_default.ensures c.in-Some-two.ensures
