use Rattle.std.proofs.Common.{◌∙◌, ◌+◌, rules, refl}
use Rattle.sema_table_crew.specs.declared.work.Work.TheVariants.{Spread}
use Rattle.sema_table_crew.proofs.Keeping.{one_more}
use Rattle.sema_table_crew.proofs.work.spread.Goals as goal

pub loop-drawn-init : goal.loop-drawn-init
loop-drawn-init g c = (search rules, search rules, (0, refl), search rules, search rules)

pub loop-drawn-preserved : goal.loop-drawn-preserved
loop-drawn-preserved g c =
    let was = c.loop-drawn.invariant in let run = was.2 in let went = c.round-seat.ensures in (
      went.same.0 ∙ was.0,
      went.same.1 ∙ was.1,
      (run.0 + 1, one_more Spread c.args.seat run.0 c.loop-drawn.seat c.round-seat.result run.1 (c.new-counter.result, went.went)),
      search rules,
      search rules,
    )
