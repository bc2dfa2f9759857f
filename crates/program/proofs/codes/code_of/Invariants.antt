use Rattle.std.proofs.Common.{◌≡◌, take, length}
use Rattle.program.specs.Codes.{code_from, size_of}
use Rattle.program.proofs.codes.code_of.Given as goal

-- what is put in so far, and how long it is
abbrev pub invariant-loop-written : goal.invariant-loop-written
invariant-loop-written l = record {
  lines : l.lines.items ≡ code_from l.codes l.body (take l.written-index l.body);
  length_is : length l.lines.items ≡ size_of l.codes (take l.written-index l.body);
}
