use Rattle.std.proofs.Common.{length}
use Rattle.program_text.proofs.Texts.{SoFar}
use Rattle.program_text.proofs.text_reader.read_lines.Given as goal

abbrev pub invariant-loop-rest : goal.invariant-loop-rest
invariant-loop-rest l = SoFar l.text l.rest l.lines.items

abbrev pub decreases-loop-rest : goal.decreases-loop-rest
decreases-loop-rest l = length l.rest
