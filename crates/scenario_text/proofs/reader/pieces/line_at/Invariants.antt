use Rattle.std.proofs.Common.{◌≡◌, ◌-◌}
use Rattle.scenario_text.specs.Pieces.{pieces, text_at}
use Rattle.scenario_text.proofs.reader.pieces.line_at.Given as goal

abbrev pub invariant-loop-left : goal.invariant-loop-left
invariant-loop-left l = text_at (l.left - 1) (pieces l.rest) ≡ text_at (l.number - 1) (pieces l.text)

abbrev pub decreases-loop-left : goal.decreases-loop-left
decreases-loop-left l = l.left
