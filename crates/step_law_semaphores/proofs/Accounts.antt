-- The accounts, all of them.
use Rattle.step_law_semaphores.specs.Accounts.{TheAccounts}
use Rattle.step_law_semaphores.proofs.Owning.{named, told}
use Rattle.step_law_semaphores.proofs.Balancing.{added, taken, balanced, balanced_in_all, withdrawn}
use Rattle.step_law_semaphores.proofs.Holding.{lowered, given, alone, granted, near}
use Rattle.step_law_semaphores.proofs.Leaving.{left}
use Rattle.step_law_semaphores.proofs.Changing.{changed}
use Rattle.step_law_semaphores.proofs.Serving.{counted, served_once}
use Rattle.step_law_semaphores.proofs.Queueing.{turns, since}
use Rattle.step_law_semaphores.proofs.Resting.{cleared, unwrapped}
use Rattle.step_law_semaphores.proofs.Earning.{ended}

pub the_accounts : TheAccounts
the_accounts = record {
  named = named;
  told = told;
  added = added;
  withdrawn = withdrawn;
  taken = taken;
  balanced = balanced;
  balanced_in_all = balanced_in_all;
  lowered = lowered;
  given = given;
  alone = alone;
  left = left;
  granted = granted;
  near = near;
  changed = changed;
  counted = counted;
  served = served_once;
  ended = ended;
  turns = turns;
  since = since;
  cleared = cleared;
  unwrapped = unwrapped;
}
