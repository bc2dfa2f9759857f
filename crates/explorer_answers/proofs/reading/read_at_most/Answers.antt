use Rattle.std.proofs.Common.{rules}
use Rattle.explorer_answers.proofs.reading.read_at_most.Goals as goal

pub returns-in-Err-clause-unread : goal.returns-in-Err-clause-unread
returns-in-Err-clause-unread g c = search rules
