use Rattle.std.proofs.Common.{arith}
use Rattle.std.proofs.lemmas.List.{nil_from_length}
use Rattle.journal.proofs.Spelling.{entry_line, head_line}
use Rattle.journal.proofs.reader.spelling.read_line.Goals as goal

pub returns-in-Some : goal.returns-in-Some
returns-in-Some c = entry_line c.args.before.now c.args.text.now c.in-Some.entry (rw c.len.ensures at c.in-Some.ensures)

pub returns : goal.returns
returns c = head_line c.args.before.now c.args.text.now c.read_head.result (rw c.len.ensures at c.in_default.ensures)
    (nil_from_length c.args.before.now.entries (omega arith)) c.read_head.ensures
