use Rattle.scenario_replay.proofs.LineTelling.{has_told}
use Rattle.scenario_replay.proofs.line.step_line.Goals as goal

pub returns : goal.returns
returns c =
    has_told _ _ _ _ _ _ _ _ _ _ _ _ _ c.in_ok-before.ensures c.number-i.ensures c.requires c.in-Ok.ensures.enabled
    c.in-Ok.ensures.found c.phase-row.ensures c.begun-begun.ensures c.scenario.ensures c.index.ensures c.call_begun-call.ensures
    _ c.in-Ok-step.ensures.ok c.in_ok-picture.ensures
