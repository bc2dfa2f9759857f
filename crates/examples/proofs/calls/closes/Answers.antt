use Rattle.std.proofs.Common.{rules}
use Rattle.examples.proofs.calls.closes.Goals as goal

pub close-requires : goal.close-requires
close-requires c = search rules
