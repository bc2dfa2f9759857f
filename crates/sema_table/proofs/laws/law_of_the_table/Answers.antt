use Rattle.sema_table.specs.Rule.{setting_of}
use Rattle.sema_table.proofs.Lawful.{the_table}
use Rattle.sema_table.proofs.laws.law_of_the_table.Goals as goal

pub returns : goal.returns
returns c = λ key s held. the_table (setting_of key) s held.kept
