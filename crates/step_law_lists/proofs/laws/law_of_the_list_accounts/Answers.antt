use Rattle.step_law_lists.proofs.ListAccounts.{the_list_accounts}
use Rattle.step_law_lists.proofs.laws.law_of_the_list_accounts.Goals as goal

pub returns : goal.returns
returns c = the_list_accounts
