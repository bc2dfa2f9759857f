use Rattle.std.proofs.Common.{◌≡◌, drop}
use Rattle.program.specs.Names.{is_any_again}
use Rattle.program.proofs.names.DeclaredNames.is_any_again.Given as goal

abbrev pub invariant-loop-i : goal.invariant-loop-i
invariant-loop-i l = is_any_again l.self (drop l.i l.declared) ≡ is_any_again l.self l.declared
