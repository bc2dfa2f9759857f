use Rattle.std.proofs.Common.{rules}
use Rattle.scenario_replay.proofs.line.call_begun.Goals as goal

pub returns-then-told-begun : goal.returns-then-told-begun
returns-then-told-begun c = search rules
