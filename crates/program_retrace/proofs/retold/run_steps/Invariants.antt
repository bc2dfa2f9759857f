use Rattle.std.proofs.Common.{◌++◌, List, ℕ, take}
use Rattle.program_code.specs.declared.program.Program.{Program}
use Rattle.program_retrace.specs.Ends.{LeadsTo}
use Rattle.program_retrace.proofs.retold.run_steps.Given as goal

abbrev pub invariant-loop-seat : goal.invariant-loop-seat
invariant-loop-seat l = (p : Program) (past : List ℕ) → LeadsTo p past l.fn.machine
    → LeadsTo p (past ++ take l.seat-index l.schedule) l.machine
