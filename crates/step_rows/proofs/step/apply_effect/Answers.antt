use Rattle.std.proofs.Common.{subst, sym}
use Rattle.step_table.specs.declared.effect.Effect.{Effect}
use Rattle.step_rows.specs.Stored.{Makes}
use Rattle.step_rows.proofs.Storing.{moves_nothing}
use Rattle.step_rows.proofs.step.apply_effect.Goals as goal

pub returns-in-Nothing : goal.returns-in-Nothing
returns-in-Nothing c =
    subst (λ (e : Effect). Makes e c.args.seat c.args.shared.now c.args.shared.now) (sym c.in-Nothing.is) (moves_nothing c.args.shared.now c.args.seat)
