use Rattle.journal.proofs.Forms.{counter_reads}
use Rattle.journal.proofs.reader.spelling.read_head.Goals as goal

pub returns-in-Some : goal.returns-in-Some
returns-in-Some c = counter_reads c.args.text.now c.in-Some.start c.in-Some.ensures
