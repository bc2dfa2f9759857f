use Rattle.std.proofs.Common.{arith}
use Rattle.step_core.proofs.Beginning.{one_more}
use Rattle.step_core.proofs.starting.first_lists.Goals as goal

pub loop-first-preserved : goal.loop-first-preserved
loop-first-preserved c = (
  rw c.push_reserved.ensures.items (one_more _ _ _ _ _ c.loop-first.invariant.0 c.in_ok-new.ensures),
  let same = c.push_reserved.ensures.capacity in let before = c.loop-first.invariant.1 in omega arith,
)
