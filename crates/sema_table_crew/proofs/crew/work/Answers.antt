use Rattle.std.proofs.Common.{rules}
use Rattle.sema_table_crew.proofs.crew.work.Goals as goal

pub returns-then-wait : goal.returns-then-wait
returns-then-wait g c = search rules
