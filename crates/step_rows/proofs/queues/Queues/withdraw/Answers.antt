use Rattle.std.proofs.Common.{arith}
use Rattle.step_table.specs.World.{without}
use Rattle.step_rows.proofs.Rooting.{root_there, roots_left, lists_left, sought_left, without_ids}
use Rattle.step_rows.proofs.queues.Queues.withdraw.Goals as goal

pub root_of-at-requires-clause-fits : goal.root_of-at-requires-clause-fits
root_of-at-requires-clause-fits c = let there = root_there c.self.invariant.1 c.self.view_is c.requires in omega arith

pub index_mut-root-requires : goal.index_mut-root-requires
index_mut-root-requires c = let there = root_there c.self.invariant.1 c.self.view_is c.requires in let at = c.root_of-at.ensures in omega arith

pub invariant_of-self : goal.invariant_of-self
invariant_of-self c = (
  c.self.invariant.0,
  roots_left
      (record { are = c.self.invariant.1; same = c.self.view_is; within = c.requires; at = c.root_of-at.ensures; found = c.index_mut-root.ensures.value })
      _ _ _ (sought_left _ _ _ c.withdraw_seat.ensures.first) c.withdraw_seat.ensures.rest c.withdraw_seat.ensures.count c.withdraw_seat.ensures.none c.withdraw_seat.ensures.seats,
)

pub returns-clause-lists : goal.returns-clause-lists
returns-clause-lists c = lists_left
    (record { are = c.self.invariant.1; same = c.self.view_is; within = c.requires; at = c.root_of-at.ensures; found = c.index_mut-root.ensures.value })
    _ _ _ (sought_left _ _ _ c.withdraw_seat.ensures.first) c.withdraw_seat.ensures.rest c.withdraw_seat.ensures.count c.withdraw_seat.ensures.none c.withdraw_seat.ensures.seats
    (without c.args.seat) (without_ids c.args.seat _)
