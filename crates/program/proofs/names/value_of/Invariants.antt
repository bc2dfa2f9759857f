use Rattle.std.proofs.Common.{◌≡◌, drop}
use Rattle.program.specs.Names.{value_of}
use Rattle.program.proofs.names.value_of.Given as goal

abbrev pub invariant-loop-constant : goal.invariant-loop-constant
invariant-loop-constant l = value_of (drop l.constant-index l.constants) l.name ≡ value_of l.constants l.name
