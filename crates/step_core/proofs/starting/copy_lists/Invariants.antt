use Rattle.step_rows.proofs.Replacing.{AreCopied}
use Rattle.step_core.proofs.starting.copy_lists.Given as goal

abbrev pub invariant-loop-at : goal.invariant-loop-at
invariant-loop-at l = AreCopied l.lists l.others l.at
