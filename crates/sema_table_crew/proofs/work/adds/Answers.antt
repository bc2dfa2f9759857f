use Rattle.std.proofs.Common.{ℕ, false, rules, subst}
use Rattle.sema_table_crew.specs.declared.work.Work.TheVariants.{Adds}
use Rattle.sema_table_crew.specs.Turns.{Releases}
use Rattle.sema_table_crew.proofs.Keeping.{one_more}
use Rattle.sema_table_crew.proofs.work.adds.Goals as goal

pub loop-turn-preserved : goal.loop-turn-preserved
loop-turn-preserved g c =
    let s = c.loop-turn.seat in let t = c.release-seat.result in (
      search rules,
      search rules,
      search rules,
      one_more Adds c.args.seat c.loop-turn._turn s t c.loop-turn.invariant.3
          (subst (λ (k : ℕ). Releases s k false t) c.new.ensures c.release-seat.ensures.released),
    )
