use Rattle.std.proofs.Common.{rules}
use Rattle.sema_root.proofs.tickets.Tickets.from_seed.Goals as goal

pub returns : goal.returns
returns c = search rules
