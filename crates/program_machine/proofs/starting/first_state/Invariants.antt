use Rattle.program_machine.specs.Starting.{HaveStarted}
use Rattle.program_machine.proofs.starting.first_state.Given as goal

abbrev pub invariant-loop-i : goal.invariant-loop-i
invariant-loop-i l = HaveStarted l.program l.i l.own
