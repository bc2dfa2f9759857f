use Rattle.sync_guarded.proofs.Law.{the_guard}
use Rattle.sync_guarded.proofs.laws.law_of_the_guards.Goals as goal

pub returns : goal.returns
returns g c = the_guard
