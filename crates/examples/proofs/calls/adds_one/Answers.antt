use Rattle.std.proofs.Common.{arith}
use Rattle.examples.proofs.calls.adds_one.Goals as goal

pub add-seat-requires-clause-left : goal.add-seat-requires-clause-left
add-seat-requires-clause-left c = omega arith
