use Rattle.journal.specs.Reading.{IsLast}
use Rattle.journal.proofs.Parts.{failed, differ, agree, last_none, last_other, last_made}
use Rattle.journal.proofs.reader.parts.last.Goals as goal

pub returns-in_err-n : goal.returns-in_err-n
returns-in_err-n c = failed (IsLast c.args.word.now c.args.end.now c.args.text.now) c.from_residual.result c.from_residual.ensures
    (last_none c.args.word.now c.args.end.now c.args.text.now c.requires c.in_err-n.ensures)

pub returns-then-ne : goal.returns-then-ne
returns-then-ne c = last_other c.args.word.now c.args.end.now c.args.text.now c.in_ok-n.rest.now c.in_ok-n.n c.requires c.in_ok-n.ensures
    (differ c.ne.result c.in_ok-n.rest.now c.args.end.now c.ne.ensures c.if-ne.true)

pub returns : goal.returns
returns c = last_made c.args.word.now c.args.end.now c.args.text.now c.in_ok-n.rest.now c.in_ok-n.n c.requires c.in_ok-n.ensures
    (agree c.ne.result c.in_ok-n.rest.now c.args.end.now c.ne.ensures c.if-ne.false)
