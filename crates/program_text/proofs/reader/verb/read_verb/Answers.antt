use Rattle.program_text.proofs.Verbs.{verb_read}
use Rattle.program_text.proofs.reader.verb.read_verb.Goals as goal

pub returns : goal.returns
returns c = verb_read c.args.word.now c.find_verb.result c.find_verb.ensures
