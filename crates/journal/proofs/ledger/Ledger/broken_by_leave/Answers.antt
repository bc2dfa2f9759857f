use Rattle.std.proofs.lemmas.Grind.{common_steps}
use Rattle.std.proofs.Common.{arith}
use Rattle.journal.proofs.ledger.Ledger.broken_by_leave.Goals as goal

pub returns-then-owes : goal.returns-then-owes
returns-then-owes c = grind (arith, common_steps)

pub returns-else-owes : goal.returns-else-owes
returns-else-owes c = grind (arith, common_steps)
