use Rattle.notify_list.proofs.Lawful.{the_list}
use Rattle.notify_list.proofs.laws.law_of_the_list.Goals as goal

pub returns : goal.returns
returns c = the_list
