use Rattle.std.proofs.Common.{◌++◌, ap, ◌∙◌}
use Rattle.step_table.specs.declared.standing.Standing.TheVariants.{Rest}
use Rattle.step_keys.specs.Key.{standing_words}
use Rattle.step_core.specs.State.{WholeMachine}
use Rattle.step_rows.proofs.KeyWriting.{item_is}
use Rattle.step_keys.proofs.KeyPieces.{none_written, one_written}
use Rattle.step_core.proofs.machine.WholeMachine.write_all_standing.Goals as goal

pub loop-standing-init : goal.loop-standing-init
loop-standing-init c = none_written _ _

pub loop-standing-preserved : goal.loop-standing-preserved
loop-standing-preserved c =
    let is = item_is Rest _ _ _ _ c.standing-item.is c.loop-standing-test.true
    (c.deref-standing-items.ensures.value ∙ ap (λ (h : WholeMachine). h.standing) c.self.view_is) in
    one_written _ _ _ _ _ c.loop-standing.invariant (c.in_ok-write_standing.ensures ∙ ap (λ s. c.loop-standing.key.items ++ standing_words s) is)
