-- The law of one notify list, of its parts.
use Rattle.step_law_lists.specs.ListLaw.{TheListLaw}
use Rattle.step_table.specs.ListSteps.{list_rules}
use Rattle.step_table.proofs.Turns.{sole}
use Rattle.step_table.proofs.Wrapping.{less_means, bounds_are_tight}
use Rattle.step_law_lists.proofs.ListKeeping.{list_starts, list_kept, list_reached}
use Rattle.step_law_lists.proofs.ListLawfulness.{list_lawful}
use Rattle.step_law_lists.proofs.ListCalling.{list_calls, list_least, list_own, list_closed}
use Rattle.step_law_lists.proofs.ListTelling.{list_tells}
use Rattle.step_law_lists.proofs.ListEarly.{list_early, list_in_time, list_near, list_few}
use Rattle.step_law_lists.proofs.ListGoing.{each_goes, rows_go}
use Rattle.step_law_lists.proofs.ListGranting.{each_grants, rows_grant}
use Rattle.step_law_lists.proofs.ListEnding.{list_ends}
use Rattle.step_law_lists.proofs.ListBlindness.{rows_are_blind}

pub the_list_law : TheListLaw
the_list_law =
    record {
      starts = list_starts;
      kept = list_kept;
      lawful = list_lawful;
      reached = λ first seats s reach reached. list_lawful first seats s (list_reached first seats s reach reached);
      least = list_least;
      granted = λ first seats s reach reached. (each_grants first seats reach reached, rows_grant first seats s reach reached);
      gone = λ first seats s reach reached. (each_goes first seats reach reached, rows_go first seats s reach reached);
      calls = list_calls;
      tells = list_tells;
      own = list_own;
      early = list_early;
      in_time = list_in_time;
      near = list_near;
      few = list_few;
      ends = list_ends;
      closed = list_closed;
      sole = sole list_rules;
      less_means = less_means;
      tight = bounds_are_tight;
      blind = rows_are_blind;
    }
