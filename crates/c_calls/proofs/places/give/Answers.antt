use Rattle.std.proofs.Common.{[], ◌∷◌, arith, rules}
use Rattle.c_calls.proofs.Dealing.{one_given}
use Rattle.c_calls.proofs.places.give.Goals as goal

pub loop-handle-preserved : goal.loop-handle-preserved
loop-handle-preserved c = let inv = c.loop-handle.invariant in (
  search rules,
  one_given (λ h. h.cell.places) (λ b. b.value ∷ []) c.loop-handle.handles c.loop-handle.handle-index c.of.result
      c.loop-handle.places.items c.pop.new.self.items c.in-Some.place _ (let a = c.loop-handle.auto.handles in let t = c.loop-handle-test.true in omega arith)
      c.in-Some.ensures.items c.of.ensures inv.1,
)
