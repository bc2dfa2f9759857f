use Rattle.std.proofs.Common.{rules}
use Rattle.sema_root.proofs.tickets.draw.Goals as goal

pub returns-clause-ticket : goal.returns-clause-ticket
returns-clause-ticket c = search rules
