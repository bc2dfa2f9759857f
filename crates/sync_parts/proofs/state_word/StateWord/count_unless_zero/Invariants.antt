use Rattle.step_table.specs.declared.standing.GroupRow.TheVariants.{V2}
use Rattle.step_table.specs.declared.standing.Ending.TheVariants.{NextCall}
use Rattle.step_table.specs.GroupBits.{IsGroupWord}
use Rattle.sync_parts.proofs.GroupWaiting.{IsToCount}
use Rattle.sync_parts.proofs.state_word.StateWord.count_unless_zero.Given as goal

abbrev pub invariant-loop : goal.invariant-loop
invariant-loop g l = IsGroupWord l.word × IsToCount l.initial.token (V2 NextCall l.initial.word) l.word l.token
