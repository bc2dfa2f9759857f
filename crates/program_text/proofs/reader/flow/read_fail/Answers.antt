use Rattle.std.proofs.Common.{Some, None, arith}
use Rattle.program_text.specs.declared.reader.verb.Verb.TheVariants as verb
use Rattle.program_text.specs.Words.{texts}
use Rattle.program_text.proofs.Forms.{nil, not_nil, read}
use Rattle.program_text.proofs.Parts.{texts_none, texts_some}
use Rattle.program_text.proofs.reader.flow.read_fail.Goals as goal

pub returns-then-not-is_empty : goal.returns-then-not-is_empty
returns-then-not-is_empty c = read verb.Fail (texts c.args.words.now) None
    (not_nil (texts c.args.words.now) (texts_some c.args.words.now (grind arith)))

pub returns : goal.returns
returns c = read verb.Fail (texts c.args.words.now) (Some tt) (nil (texts c.args.words.now) (texts_none c.args.words.now (grind arith)))
