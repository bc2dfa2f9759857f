use Rattle.std.proofs.Common.{rules}
use Rattle.scenario_text.proofs.read_fault.CauseDisplay.fmt.Goals as goal

pub returns-clause-writes : goal.returns-clause-writes
returns-clause-writes g c = search rules
