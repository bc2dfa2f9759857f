use Rattle.std.proofs.Common.{rules}
use Rattle.examples.proofs.bounded_queue.settings.Goals as goal

pub returns-clause-starts : goal.returns-clause-starts
returns-clause-starts c = search rules
