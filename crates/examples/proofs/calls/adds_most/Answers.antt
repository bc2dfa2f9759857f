use Rattle.std.proofs.Common.{arith}
use Rattle.examples.proofs.calls.adds_most.Goals as goal

pub post_many-requires-clause-units : goal.post_many-requires-clause-units
post_many-requires-clause-units c = (omega arith, omega arith)
