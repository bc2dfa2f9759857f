use Rattle.std.proofs.Common.{rules}
use Rattle.step_outcomes.proofs.release_many.after_leave.Goals as goal

pub returns-then-sight-gt1 : goal.returns-then-sight-gt1
returns-then-sight-gt1 c = search rules
