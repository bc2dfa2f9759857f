use Rattle.std.proofs.Common.{rules}
use Rattle.step_core.proofs.scenario.is_ticket_call.Goals as goal

pub returns-in-Add : goal.returns-in-Add
returns-in-Add c = search rules
