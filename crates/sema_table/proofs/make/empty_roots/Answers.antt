use Rattle.std.proofs.Common.{rules, ◌+◌, ◌%◌, ◌^◌, arith, ◌∙◌}
use Rattle.sema_table.specs.Making.{new_root}
use Rattle.sema_table.proofs.Making.{one_more}
use Rattle.sema_table.proofs.make.empty_roots.Goals as goal

pub loop-root-preserved : goal.loop-root-preserved
loop-root-preserved c = let inv = c.loop-root.invariant in record {
  made = c.push_reserved.ensures.items
      ∙ one_more (λ r. new_root c.args.seats ((c.args.seed + r) % 2 ^ 64)) 0 c.loop-root.root c.loop-root.root c.loop-root.made.items
      c.in_ok-empty_root.field-0 (omega arith) inv.made (search rules);
  count = search rules;
  upto = search rules;
  room = search rules;
}
