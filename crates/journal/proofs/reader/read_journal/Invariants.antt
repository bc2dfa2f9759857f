use Rattle.std.proofs.Common.{length, ◌≤◌, ◌+◌, ◌*◌}
use Rattle.journal.proofs.Texts.{SoFar, Kept}
use Rattle.journal.proofs.reader.read_journal.Given as goal

-- the lines that were read are the journal's, and each has six bytes or more
abbrev pub invariant-loop-rest : goal.invariant-loop-rest
invariant-loop-rest l =
    record {
      so_far : SoFar l.text l.rest l.journal;
      kept : Kept l.journal;
      few : 6 * (l.journal.heads + length l.journal.entries) + length l.rest ≤ length l.text;
    }

abbrev pub decreases-loop-rest : goal.decreases-loop-rest
decreases-loop-rest l = length l.rest
