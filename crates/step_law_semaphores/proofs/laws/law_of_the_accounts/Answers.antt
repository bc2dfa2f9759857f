-- The law of the accounts: all of them hold.
use Rattle.step_law_semaphores.proofs.Accounts.{the_accounts}
use Rattle.step_law_semaphores.proofs.laws.law_of_the_accounts.Goals as goal

pub returns : goal.returns
returns c = the_accounts
