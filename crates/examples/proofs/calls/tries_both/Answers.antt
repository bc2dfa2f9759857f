use Rattle.std.proofs.Common.{arith}
use Rattle.examples.proofs.calls.tries_both.Goals as goal

pub try_acquire-first-requires : goal.try_acquire-first-requires
try_acquire-first-requires c = (c.requires.seats.0, omega (arith, c.new.ensures, c.requires.counters.0))
