use Rattle.std.proofs.Common.{false, refl}
use Rattle.program_code.specs.declared.instruction.Instruction.TheVariants as line
use Rattle.program_steps.specs.Going.{with_section}
use Rattle.program_rows.specs.Rows.{row_at}
use Rattle.program_rows.proofs.Storing.{seat_changes}
use Rattle.program_rows.proofs.state.ProgramState.leave.Goals as goal

pub returns : goal.returns
returns c =
    λ n. seat_changes _ _ c.self.view_is c.args.seat _ c.number.ensures c.requires.seat _ c.index_mut.ensures.value _
    (row_at c.args.seat n (line.Out c.args.section)) _ (λ s. with_section s c.args.section false) c.enter.ensures.seat c.enter.ensures.grant
    (λ layer. refl)
