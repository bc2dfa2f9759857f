use Rattle.std.proofs.Common.{rules}
use Rattle.sema_table_crew.proofs.crew.run.Goals as goal

pub close-requires : goal.close-requires
close-requires g c = search rules

pub returns : goal.returns
returns g c = search rules
