use Rattle.std.proofs.Common.{◌<◌, ◌≤◌, ◌-◌, length}
use Rattle.explorer.proofs.columns.first_left_out.Given as goal

abbrev pub invariant-loop-next : goal.invariant-loop-next
invariant-loop-next l = (2 ≤ l.column) × (l.column < length l.head)

abbrev pub decreases-loop-next : goal.decreases-loop-next
decreases-loop-next l = length l.head - l.column
