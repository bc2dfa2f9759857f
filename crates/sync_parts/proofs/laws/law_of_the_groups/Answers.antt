use Rattle.sync_parts.proofs.GroupLaw.{the_group}
use Rattle.sync_parts.proofs.laws.law_of_the_groups.Goals as goal

pub returns : goal.returns
returns c = the_group
