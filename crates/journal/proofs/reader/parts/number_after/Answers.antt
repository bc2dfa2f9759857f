use Rattle.journal.specs.JournalLine.{IsShort}
use Rattle.journal.specs.Reading.{IsAfter}
use Rattle.journal.proofs.Parts.{failed_pair, after_made, after_no_number}
use Rattle.journal.proofs.reader.parts.number_after.Goals as goal

pub returns-in_err-n : goal.returns-in_err-n
returns-in_err-n c = failed_pair (IsAfter IsShort c.args.word.now c.args.text.now) c.from_residual-in_err-n.result c.from_residual-in_err-n.ensures
    (after_no_number c.args.word.now c.args.text.now c.in_ok-rest.rest.now c.split_digits.result.0.now c.split_digits.result.1.now c.in_ok-rest.ensures
    c.split_digits.ensures.whole c.split_digits.ensures.digits c.split_digits.ensures.ends c.in_err-n.ensures)

pub returns : goal.returns
returns c = after_made c.args.word.now c.args.text.now c.in_ok-rest.rest.now c.split_digits.result.0.now c.split_digits.result.1.now c.in_ok-n.n
    c.in_ok-rest.ensures c.split_digits.ensures.whole c.split_digits.ensures.digits c.split_digits.ensures.ends c.in_ok-n.ensures
