use Rattle.std.proofs.Common.{◌≡◌, ◌+◌, List, [], ◌∷◌, ◌++◌, ap, sym, ◌∙◌, subst, take, arith}
use Rattle.std.proofs.lemmas.List.{take_all, take_more}
use Rattle.step_table.specs.declared.call.Call.{Call}
use Rattle.step_law_whole.specs.RunInvariant.{IsScenario}
use Rattle.step_law_whole.specs.RunWeight.{scripts_cost, most_steps}
use Rattle.step_law_whole.proofs.RunEnding.{the_run_ends}
use Rattle.step_core.proofs.Costs.{scripts_cost-push}
use Rattle.step_core.proofs.scenario.Scenario.most_steps.Goals as goal

pub loop-calls-preserved : goal.loop-calls-preserved
loop-calls-preserved c =
    let n = c.len-seats.result in
    let items = c.as_slice-calls-items.result.now in
    let i = c.loop-calls.calls-index in
    let calls = c.calls-item.result in
    let past : List (List Call) = take i items in
    let more : take (i + 1) items ≡ past ++ calls ∷ []
    = take_more items i calls c.loop-calls-test.true ∙ ap (λ (x : List Call). past ++ x ∷ []) (sym c.calls-item.is) in
    let before = c.loop-calls.invariant.1 in
    let low = c.calls_cost-most.ensures.low in (
      (λ j. c.loop-calls.invariant.0 j + c.calls_cost-most.ensures.cost j)
          ∙ sym (scripts_cost-push n past calls) ∙ ap (λ (scripts : List (List Call)). scripts_cost n scripts) (sym more),
      omega arith,
    )

pub returns-clause-steps : goal.returns-clause-steps
returns-clause-steps c schedule all =
    let n = c.len-seats.result in
    let items = c.as_slice-calls-items.result.now in
    let parts = c.self.inside.parts in
    let cost : c.loop-calls.most ≡ most_steps c.args.self.now =
    c.loop-calls.invariant.0
    ∙ ap (λ (scripts : List (List Call)). scripts_cost n scripts)
    (take_all c.loop-calls.calls-index items c.loop-calls-test.false ∙ c.as_slice-calls-items.ensures)
    ∙ ap (λ k. scripts_cost k parts.calls) c.len-seats.ensures ∙ ap most_steps c.self.view_is in
    let kept : IsScenario c.args.self.now = subst IsScenario c.self.view_is c.self.invariant in
    let few = the_run_ends.few c.args.self.now schedule kept all in
    omega arith
