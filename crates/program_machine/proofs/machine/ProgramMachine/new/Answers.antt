use Rattle.std.proofs.Common.{sym, subst}
use Rattle.program_machine.specs.Sound.{IsSound}
use Rattle.program_machine.proofs.FirstSeats.{first_sound}
use Rattle.program_machine.proofs.machine.ProgramMachine.new.Goals as goal

pub invariant_of-result : goal.invariant_of-result
invariant_of-result c =
    subst (IsSound c.args.program.now 0) (sym c.in_ok-boxed.ensures)
    (first_sound c.args.program.now c.in_ok-first_layer.field-0 c.in_ok-first_state.field-0 c.in_ok-first_state.ensures
    c.in_ok-first_layer.ensures.core c.first_layer.ensures.formed c.first_layer.ensures.few c.in_ok-first_layer.ensures.form)
