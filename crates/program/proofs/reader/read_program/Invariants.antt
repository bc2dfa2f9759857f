use Rattle.std.proofs.Common.{◌+◌, ◌≤◌, length}
use Rattle.program.specs.Fitting.{IsFitting}
use Rattle.program.proofs.Texts.{SoFar}
use Rattle.program.proofs.reader.read_program.Given as goal

-- the lines so far are those of the draft, and each was a byte or more
abbrev pub invariant-loop-rest : goal.invariant-loop-rest
invariant-loop-rest l = record {
  so : SoFar l.text l.rest l.draft l.number;
  fitting : IsFitting l.draft;
  number : l.number + length l.rest ≤ length l.text + 1;
}

abbrev pub decreases-loop-rest : goal.decreases-loop-rest
decreases-loop-rest l = length l.rest
