use Rattle.std.proofs.Common.{rules}
use Rattle.step_core.proofs.scenario.are_within_limits.Goals as goal

pub returns-then-len-le-MAX_SEATS : goal.returns-then-len-le-MAX_SEATS
returns-then-len-le-MAX_SEATS c = search rules
