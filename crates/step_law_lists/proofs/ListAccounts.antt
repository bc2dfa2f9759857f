-- The accounts of one notify list, of their parts.
use Rattle.std.proofs.Common.{subst}
use Rattle.step_law_lists.specs.ListPlaces.{FewRuns}
use Rattle.step_law_lists.proofs.ListHanding.{few_runs}
use Rattle.step_law_lists.proofs.ListKeeping.{list_reached, told_gone}
use Rattle.step_law_lists.proofs.ListLawfulness.{list_lawful}
use Rattle.step_law_lists.proofs.ListCalling.{list_calls, list_least}
use Rattle.step_law_lists.specs.ListAccounts.{TheListAccounts}
use Rattle.step_law_lists.proofs.ListOwning.{tells_own, named, never_back, never_undone, grows}
use Rattle.step_law_lists.proofs.ListHolding.{only_holders, alone, changes}
use Rattle.step_law_lists.proofs.ListSleeping.{counted, room}
use Rattle.step_law_lists.proofs.ListResting.{grants_parked, idle, closed}
use Rattle.step_law_lists.proofs.ListReturning.{ends_done}

pub the_list_accounts : TheListAccounts
the_list_accounts =
    record {
      tells = tells_own;
      left = only_holders;
      ended = ends_done;
      undone = never_undone;
      named = named;
      reached = λ first seats s reach reached.
          (let inv = list_reached first seats s reach reached in
          record {
            invariant = inv;
            lawful = list_lawful first seats s inv;
            calls = list_calls first seats s reach inv;
            least = λ i there. list_least first seats i s there inv;
          });
      numbers = λ first seats s inv. inv.numbers;
      stays = λ first seats s inv. never_back s inv.follows;
      alone = alone;
      counted = λ first seats s inv. counted seats s inv.placed;
      room = λ first seats s inv. room seats s inv.placed;
      runs = λ first seats s inv.
          subst (FewRuns seats) inv.numbers
          (few_runs seats s inv.tickets (λ k there. (inv.seats_known k there).only) (told_gone first seats s inv));
      granted = λ first seats i k x s there inv. grants_parked first seats s inv i k x there;
      idle = idle;
      cleared = closed;
      grown = grows;
      changed = changes;
    }
