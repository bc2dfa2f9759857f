use Rattle.std.proofs.Common.{rules}
use Rattle.step_law_alike.proofs.variant.plainly.Goals as goal

pub returns-then-ticket-notify : goal.returns-then-ticket-notify
returns-then-ticket-notify c = search rules

pub returns-else-ticket-notify : goal.returns-else-ticket-notify
returns-else-ticket-notify c = search rules
