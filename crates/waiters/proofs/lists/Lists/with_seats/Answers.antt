use Rattle.std.proofs.Common.{arith}
use Rattle.waiters.proofs.WhereaboutsSteps.{known_empty}
use Rattle.waiters.proofs.OtherLemmas.{HasRoom-empty, AreChained-empty}
use Rattle.waiters.proofs.lists.Lists.with_seats.Goals as goal

pub invariant_of-result : goal.invariant_of-result
invariant_of-result c = (
  AreChained-empty _ _ _ _ c.in_ok-with_capacity-2.ensures.empty
      (HasRoom-empty _ _ c.in_ok-with_capacity.ensures.empty c.in_ok-with_capacity.ensures.capacity (omega arith))
      (HasRoom-empty _ _ c.in_ok-with_capacity-2.ensures.empty c.in_ok-with_capacity-2.ensures.capacity (omega arith)),
  known_empty c.in_ok-with_capacity.field-0 c.in_ok-with_capacity-2.field-0 _ c.in_ok-with_capacity.ensures.empty c.in_ok-nowhere.ensures,
)
