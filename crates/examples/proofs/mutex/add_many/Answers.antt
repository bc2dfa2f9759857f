use Rattle.std.proofs.Common.{rules}
use Rattle.examples.proofs.mutex.add_many.Goals as goal

pub returns-clause-rows : goal.returns-clause-rows
returns-clause-rows g c = search rules

pub returns-clause-caller : goal.returns-clause-caller
returns-clause-caller g c = search rules
