use Rattle.std.proofs.Common.{◌∙◌, ap, arith}
use Rattle.step_table.specs.World.{stands_in}
use Rattle.step_rows.proofs.Rooting.{root_there, stands_ids, ids_looked}
use Rattle.step_rows.proofs.queues.Queues.holds.Goals as goal

pub root_of-requires-clause-fits : goal.root_of-requires-clause-fits
root_of-requires-clause-fits c = let there = root_there c.self.invariant.1 c.self.view_is c.requires in omega arith

pub index-root-requires : goal.index-root-requires
index-root-requires c = let there = root_there c.self.invariant.1 c.self.view_is c.requires in let at = c.root_of.ensures in omega arith

pub returns : goal.returns
returns c = c.holds.ensures.is_in ∙ stands_ids c.args.seat _ ∙ ap (stands_in c.args.seat) (ids_looked
    (record { are = c.self.invariant.1; same = c.self.view_is; within = c.requires; at = c.root_of.ensures; found = c.index-root.ensures }))
