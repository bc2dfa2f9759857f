use Rattle.std.proofs.Common.{Some, None}
use Rattle.program_text.specs.declared.reader.verb.Verb.TheVariants as verb
use Rattle.program_text.specs.Words.{texts}
use Rattle.program_text.proofs.Forms.{read}
use Rattle.program_text.proofs.reader.flow.read_ask.Goals as goal

pub returns-in_default : goal.returns-in_default
returns-in_default c = read verb.Ask (texts c.args.words.now) None c.in_default.ensures

pub returns : goal.returns
returns c = read verb.Ask (texts c.args.words.now) (Some c.in-Some.section) c.in-Some.ensures
