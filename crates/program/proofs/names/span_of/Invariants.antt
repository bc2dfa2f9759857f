use Rattle.std.proofs.Common.{◌≡◌, drop}
use Rattle.program.specs.Names.{span_of}
use Rattle.program.proofs.names.span_of.Given as goal

abbrev pub invariant-loop-one : goal.invariant-loop-one
invariant-loop-one l = span_of (drop l.one-index l.cells) l.name ≡ span_of l.cells l.name
