use Rattle.std.proofs.Common.{rules}
use Rattle.sync_parts.proofs.cond.Cond.wait_in_time.Goals as goal

pub returns-clause-rows : goal.returns-clause-rows
returns-clause-rows g c = search rules

pub returns-clause-caller : goal.returns-clause-caller
returns-clause-caller g c = search rules

pub lock-requires : goal.lock-requires
lock-requires g c = search rules
