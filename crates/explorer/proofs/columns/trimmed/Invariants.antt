use Rattle.std.proofs.Common.{◌≤◌, length}
use Rattle.explorer.proofs.columns.trimmed.Given as goal

abbrev pub invariant-loop-end : goal.invariant-loop-end
invariant-loop-end l = l.end ≤ length l.line

abbrev pub decreases-loop-end : goal.decreases-loop-end
decreases-loop-end l = l.end
