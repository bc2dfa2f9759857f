-- The rule gives the lawful list, and loses no sleeper.
use Rattle.step_law_lists.proofs.ListAccounts.{the_list_accounts}
use Rattle.step_law_lists.proofs.ListPromises.{the_list_law}
use Rattle.running_rows.specs.Rule.{Holds}
use Rattle.notify_list.specs.Rows.{list_rows}
use Rattle.notify_list.specs.List.{TheList, TheSleepers}

pub the_list : TheList (Holds list_rows)
the_list z s rule = let kept = rule.kept in let met = kept.shows.met in record {
  kept = kept;
  lawful = the_list_law.reached z.first z.seats kept.world met.reach met.reached;
  named = the_list_accounts.named z.first z.seats kept.world met.reached;
  least = (the_list_law.granted z.first z.seats kept.world met.reach met.reached).0;
  reach = met.reach;
  goes = (the_list_law.gone z.first z.seats kept.world met.reach met.reached).0;
}

pub the_sleepers : TheSleepers (Holds list_rows)
the_sleepers z s x rule threads is few left = (rule.served x is few).called left
