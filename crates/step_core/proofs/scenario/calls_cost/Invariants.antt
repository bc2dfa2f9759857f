use Rattle.std.proofs.Common.{◌≡◌, ◌*◌, ◌≤◌, take}
use Rattle.step_law_whole.specs.RunWeight.{calls_cost}
use Rattle.step_core.proofs.scenario.calls_cost.Given as goal

abbrev pub invariant-loop-call : goal.invariant-loop-call
invariant-loop-call l = (l.cost ≡ calls_cost l.seats (take l.call-index l.call-items)) × (l.cost ≤ 708 * l.call-index)
