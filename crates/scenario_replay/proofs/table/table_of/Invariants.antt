use Rattle.scenario_replay.proofs.Telling.{TableSoFar}
use Rattle.scenario_replay.proofs.table.table_of.Given as goal

abbrev pub invariant-loop-at : goal.invariant-loop-at
invariant-loop-at l = TableSoFar l.fn.change l.fn.scenario l.schedule l.start l.at l.running l.told.items l.lines.items l.journal.items
