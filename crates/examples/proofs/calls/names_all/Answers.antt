use Rattle.std.proofs.Common.{arith}
use Rattle.examples.proofs.calls.names_all.Goals as goal

pub try_all-requires-clause-room : goal.try_all-requires-clause-room
try_all-requires-clause-room c = let few = c.requires.few in let long = c.told-woken in omega arith
