use Rattle.std.proofs.Common.{◌≡◌, drop}
use Rattle.program.specs.Codes.{first_lost}
use Rattle.program.proofs.codes.first_lost.Given as goal

abbrev pub invariant-loop-written : goal.invariant-loop-written
invariant-loop-written l = first_lost l.body (drop l.written-index l.body) ≡ first_lost l.body l.body
