use Rattle.std.proofs.Common.{rules}
use Rattle.examples.proofs.mutex.are_both_held.Goals as goal

pub returns-then-held-clause-met : goal.returns-then-held-clause-met
returns-then-held-clause-met c = search rules

pub returns-then-held-clause-never : goal.returns-then-held-clause-never
returns-then-held-clause-never c = search rules

pub returns-else-held-clause-met : goal.returns-else-held-clause-met
returns-else-held-clause-met c = search rules
