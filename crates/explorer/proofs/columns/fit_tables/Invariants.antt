use Rattle.std.proofs.Common.{length}
use Rattle.explorer.proofs.Fitting.{StandsAt}
use Rattle.explorer.proofs.columns.fit_tables.Given as goal

abbrev pub invariant-loop-rest : goal.invariant-loop-rest
invariant-loop-rest l = StandsAt l.most l.text l.rest l.told.items

abbrev pub decreases-loop-rest : goal.decreases-loop-rest
decreases-loop-rest l = length l.rest
