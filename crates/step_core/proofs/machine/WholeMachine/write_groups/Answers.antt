use Rattle.std.proofs.Common.{◌++◌, ap, ◌∙◌}
use Rattle.step_table.specs.Group.{empty_word}
use Rattle.step_keys.specs.Key.{group_words}
use Rattle.step_core.specs.State.{WholeMachine}
use Rattle.step_rows.specs.Stored.{each}
use Rattle.step_keys.proofs.KeyPieces.{none_written, one_written}
use Rattle.step_core.proofs.machine.WholeMachine.write_groups.Goals as goal

pub loop-word-init : goal.loop-word-init
loop-word-init c = none_written _ _

pub loop-word-preserved : goal.loop-word-preserved
loop-word-preserved c =
    one_written _ _ _ _ _ c.loop-word.invariant
    (c.in_ok-write_group.ensures ∙ ap (λ l. c.loop-word.key.items ++ group_words (each empty_word l c.loop-word.word-index))
    (c.deref-word-items.ensures.value ∙ ap (λ (h : WholeMachine). h.groups) c.self.view_is))
