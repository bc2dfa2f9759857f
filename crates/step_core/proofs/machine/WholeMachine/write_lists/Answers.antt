use Rattle.std.proofs.Common.{[], ◌++◌, length, ap, ◌∙◌}
use Rattle.step_keys.specs.Key.{list_words}
use Rattle.step_rows.specs.ListStored.{world_of}
use Rattle.step_core.specs.State.{WholeMachine, no_list}
use Rattle.step_rows.proofs.KeyWriting.{item_is}
use Rattle.step_keys.proofs.KeyPieces.{none_written, one_written}
use Rattle.step_core.proofs.machine.WholeMachine.write_lists.Goals as goal

pub loop-list-init : goal.loop-list-init
loop-list-init c = none_written _ _

pub loop-list-preserved : goal.loop-list-preserved
loop-list-preserved c =
    let is = item_is no_list _ _ _ _ c.list-item.is c.loop-list-test.true
    (c.deref-list-items.ensures.value ∙ ap (λ (h : WholeMachine). h.lists) c.self.view_is) in
    one_written _ _ _ _ _ c.loop-list.invariant
    (c.in_ok-write_key.ensures ∙ ap (λ l. c.loop-list.key.items ++ list_words (length l.seats) (world_of l [])) is)
