use Rattle.std.proofs.Common.{◌≡◌, ◌*◌, ◌≤◌, take}
use Rattle.step_law_whole.specs.RunWeight.{scripts_cost}
use Rattle.step_core.proofs.scenario.Scenario.most_steps.Given as goal

abbrev pub invariant-loop-calls : goal.invariant-loop-calls
invariant-loop-calls l =
    (l.most ≡ scripts_cost l.seats (take l.calls-index l.calls-items)) × (l.most ≤ 22656 * l.calls-index)
