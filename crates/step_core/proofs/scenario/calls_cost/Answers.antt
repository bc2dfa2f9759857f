use Rattle.std.proofs.Common.{◌≡◌, ◌+◌, List, [], ◌∷◌, ◌++◌, ap, sym, ◌∙◌, take, arith}
use Rattle.std.proofs.lemmas.List.{take_more}
use Rattle.step_table.specs.declared.call.Call.{Call}
use Rattle.step_law_whole.specs.RunWeight.{calls_cost}
use Rattle.step_core.proofs.Costs.{calls_cost-push}
use Rattle.step_core.proofs.scenario.calls_cost.Goals as goal

pub loop-call-preserved : goal.loop-call-preserved
loop-call-preserved c =
    let n = c.args.seats in
    let items = c.as_slice-call-items.result.now in
    let i = c.loop-call.call-index in
    let call = c.call-item.result in
    let past : List Call = take i items in
    let more : take (i + 1) items ≡ past ++ call ∷ []
    = take_more items i call c.loop-call-test.true ∙ ap (λ (x : Call). past ++ x ∷ []) (sym c.call-item.is) in
    let before = c.loop-call.invariant.1 in
    let low = c.call_cost-cost.ensures.low in (
      (λ j. c.loop-call.invariant.0 j + c.call_cost-cost.ensures.cost j)
          ∙ sym (calls_cost-push n past call) ∙ ap (λ (calls : List Call). calls_cost n calls) (sym more),
      omega arith,
    )
