use Rattle.std.proofs.Common.{◌≡◌, false, arith, sym, ap, refl, ◌∙◌, get_or, below_more, length}
use Rattle.std.proofs.lemmas.List.{get_or_read_under}
use Rattle.c_calls.specs.declared.handle.SeatHandle.{SeatHandle}
use Rattle.c_calls.proofs.deal.are_empty.Goals as goal

pub returns-then-handle : goal.returns-then-handle
returns-then-handle c = (c.loop-handle.handle-index, c.handle-item.result, c.loop-handle-test.true, sym c.handle-item.is, c.if-handle.true)

pub loop-handle-preserved : goal.loop-handle-preserved
loop-handle-preserved c =
    below_more (λ k. (d : SeatHandle) → (get_or c.args.handles.now k d).is_full ≡ false) c.loop-handle.handle-index c.loop-handle.invariant
    (λ d. ap (λ (h : SeatHandle). h.is_full) (sym (get_or_read_under c.args.handles.now c.loop-handle.handle-index (length c.args.handles.now) c.handle-item.result d c.handle-item.is c.loop-handle-test.true refl)) ∙ c.if-handle.false)

pub returns : goal.returns
returns c = λ k d below. let end = c.loop-handle-test.false in c.loop-handle.invariant k (omega arith) d
