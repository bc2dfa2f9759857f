use Rattle.journal.proofs.Parts.{index_made}
use Rattle.journal.proofs.reader.parts.index_after.Goals as goal

pub returns : goal.returns
returns c = index_made c.args.count c.args.keyword.now c.args.text.now c.in_ok-n.rest.now c.in_ok-n.n c.if-n-count.false c.in_ok-n.ensures
