use Rattle.notify_list.proofs.Lawful.{the_sleepers}
use Rattle.notify_list.proofs.laws.law_of_the_sleepers.Goals as goal

pub returns : goal.returns
returns c = the_sleepers
