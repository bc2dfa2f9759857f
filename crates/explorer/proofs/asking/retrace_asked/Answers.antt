use Rattle.std.proofs.Common.{rules}
use Rattle.explorer.proofs.asking.retrace_asked.Goals as goal

pub returns-clause-once : goal.returns-clause-once
returns-clause-once c = search rules
