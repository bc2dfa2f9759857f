use Rattle.std.proofs.Common.{◌++◌}
use Rattle.std.specs.Fmt.{decimal}
use Rattle.journal.specs.JournalLine.{IsShort, IsOneOf}
use Rattle.journal.specs.Reading.{IsIndexed, last_text}
use Rattle.journal.proofs.Parts.{failed, none_after, more_none, more_made, parts}
use Rattle.journal.proofs.reader.parts.indexed.Goals as goal

pub returns-in_err-index : goal.returns-in_err-index
returns-in_err-index c =
    failed (IsIndexed c.args.count c.args.keyword.now c.args.first.now c.args.end.now c.args.text.now) c.from_residual.result c.from_residual.ensures
    (none_after (IsOneOf c.args.count) IsShort (last_text c.args.first.now c.args.end.now) c.args.keyword.now c.args.text.now
    (λ a. parts c.args.first.now (decimal a ++ c.args.end.now) c.requires.first) c.in_err-index.ensures)

pub returns-in_err-more : goal.returns-in_err-more
returns-in_err-more c = failed (IsIndexed c.args.count c.args.keyword.now c.args.first.now c.args.end.now c.args.text.now)
    c.from_residual-in_err-more.result c.from_residual-in_err-more.ensures
    (more_none (IsOneOf c.args.count) IsShort (last_text c.args.first.now c.args.end.now) c.args.keyword.now c.args.text.now
    c.in_ok-index.rest.now c.in_ok-index.index
    (λ a. parts c.args.first.now (decimal a ++ c.args.end.now) c.requires.first) c.in_ok-index.ensures c.in_err-more.ensures)

pub returns : goal.returns
returns c = more_made (IsOneOf c.args.count) IsShort (last_text c.args.first.now c.args.end.now) c.args.keyword.now c.args.text.now
    c.in_ok-index.rest.now c.in_ok-index.index c.in_ok-more.more
    (λ a. parts c.args.first.now (decimal a ++ c.args.end.now) c.requires.first) c.in_ok-index.ensures c.in_ok-more.ensures
