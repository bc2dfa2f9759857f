use Rattle.std.proofs.Common.{◌++◌}
use Rattle.std.specs.Fmt.{decimal}
use Rattle.journal.specs.JournalLine.{IsShort}
use Rattle.journal.specs.Reading.{IsLastTwo, last_text}
use Rattle.journal.proofs.Parts.{failed, none_after, more_none, more_made, parts}
use Rattle.journal.proofs.reader.parts.last_two.Goals as goal

pub returns-in_err-n : goal.returns-in_err-n
returns-in_err-n c = failed (IsLastTwo c.args.first.now c.args.second.now c.args.end.now c.args.text.now) c.from_residual.result c.from_residual.ensures
    (none_after IsShort IsShort (last_text c.args.second.now c.args.end.now) c.args.first.now c.args.text.now
    (λ a. parts c.args.second.now (decimal a ++ c.args.end.now) c.requires.parts) c.in_err-n.ensures)

pub returns-in_err-more : goal.returns-in_err-more
returns-in_err-more c =
    failed (IsLastTwo c.args.first.now c.args.second.now c.args.end.now c.args.text.now) c.from_residual-in_err-more.result c.from_residual-in_err-more.ensures
    (more_none IsShort IsShort (last_text c.args.second.now c.args.end.now) c.args.first.now c.args.text.now c.in_ok-n.rest.now c.in_ok-n.n
    (λ a. parts c.args.second.now (decimal a ++ c.args.end.now) c.requires.parts) c.in_ok-n.ensures c.in_err-more.ensures)

pub returns : goal.returns
returns c =
    more_made IsShort IsShort (last_text c.args.second.now c.args.end.now) c.args.first.now c.args.text.now c.in_ok-n.rest.now c.in_ok-n.n c.in_ok-more.more
    (λ a. parts c.args.second.now (decimal a ++ c.args.end.now) c.requires.parts) c.in_ok-n.ensures c.in_ok-more.ensures
