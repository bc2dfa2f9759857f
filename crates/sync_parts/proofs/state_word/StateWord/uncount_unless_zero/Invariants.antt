use Rattle.std.specs.Prelude.{List}
use Rattle.step_table.specs.declared.standing.GroupRow.TheVariants.{V4}
use Rattle.sync_parts.specs.declared.group_view.GroupStep.{GroupStep}
use Rattle.sync_parts.specs.GroupRule.{Follows}
use Rattle.sync_parts.specs.GroupPlays.{given_up}
use Rattle.sync_parts.proofs.GroupWaiting.{HasCome}
use Rattle.sync_parts.proofs.state_word.StateWord.uncount_unless_zero.Given as goal

abbrev pub invariant-loop : goal.invariant-loop
invariant-loop g l =
    (steps : List GroupStep) × HasCome l.initial.token (V4 given_up) steps (V4 given_up) l.token
    × Follows l.token.me.0.own.knows.next (V4 given_up)
