use Rattle.std.proofs.Common.{◌↔◌, IsTrue, IsSome, sym, subst}
use Rattle.program_steps.specs.Steps.{row_of_line}
use Rattle.program_rows.specs.Stored.{world_over}
use Rattle.program_rows.proofs.state.ProgramState.can_run.Goals as goal

pub returns-in-Await : goal.returns-in-Await
returns-in-Await c = λ layer n.
    subst (λ l. IsTrue c.can_go_on.result ↔ IsSome (row_of_line (world_over layer c.args.self.now) c.args.seat n l)) (sym c.in-Await.is)
    (c.can_go_on.ensures layer n c.in-Await.field-3)
