use Rattle.std.proofs.Common.{rules}
use Rattle.explorer.proofs.invocation.Invocation.with_schedule.Goals as goal

pub returns-in-OfText-OnScenario-Replay-default-default-default : goal.returns-in-OfText-OnScenario-Replay-default-default-default
returns-in-OfText-OnScenario-Replay-default-default-default c = search rules
