use Rattle.program_machine.specs.Prepared.{ArePrepared}
use Rattle.program_machine.proofs.prepared.Prepared.new.Given as goal

abbrev pub invariant-loop-code : goal.invariant-loop-code
invariant-loop-code l = ArePrepared l.fn.program l.in_use l.code-index
