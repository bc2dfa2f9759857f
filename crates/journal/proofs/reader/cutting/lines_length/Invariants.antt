use Rattle.std.proofs.Common.{◌≡◌, ℕ, List, ◌++◌}
use Rattle.journal.specs.Cutting.{first_lines}
use Rattle.journal.proofs.reader.cutting.lines_length.Given as goal

-- the text is what was passed over and the rest, and so are its first lines
abbrev pub invariant-loop-left : goal.invariant-loop-left
invariant-loop-left l = (front : List ℕ) × (l.text ≡ front ++ l.rest) × (first_lines l.count l.text ≡ front ++ first_lines l.left l.rest)

abbrev pub decreases-loop-left : goal.decreases-loop-left
decreases-loop-left l = l.left
