-- The law of the rules: both directions.
use Rattle.journal.proofs.Rules.{the_rules}
use Rattle.journal.proofs.laws.law_of_the_rules.Goals as goal

pub returns : goal.returns
returns c = the_rules
