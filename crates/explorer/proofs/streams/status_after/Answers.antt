use Rattle.std.proofs.Common.{rules}
use Rattle.explorer.proofs.streams.status_after.Goals as goal

pub returns-in-Ok : goal.returns-in-Ok
returns-in-Ok c = search rules
