-- A run of a scenario hands out few tickets, so that none is late, and each of its worlds is lawful.
use Rattle.std.proofs.Common.{◌≡◌, ℕ, ◌-◌, ◌<◌, ◌≤◌, ◌⊎◌, [], length, get_or, ap, inl, inr, arith}
use Rattle.std.proofs.lemmas.List.Elements.{All-get_or}
use Rattle.std.proofs.Math.ListN.{get_or-eq_default}
use native.Mathlib.Decide.{ℕ_discrete}
use Rattle.step_table.specs.declared.list_place.ListPlace.TheVariants.{Rest, Waiting}
use Rattle.step_table.specs.declared.list_place.Ticket.{Ticket}
use Rattle.step_table.specs.declared.list_place.ListParkedRow.TheVariants.{P}
use Rattle.step_table.specs.declared.list_place.WaitRow.TheVariants.{Parked}
use Rattle.step_table.specs.declared.parts.Parts.{Parts}
use Rattle.step_table.specs.Counting.{total}
use Rattle.step_table.specs.ListWorld.{Numbers, ListWorld}
use Rattle.step_table.specs.ListTable.{wait_for}
use Rattle.step_law_lists.specs.ListLawful.{told, times, NoneLate, IsInReach}
use Rattle.step_law_lists.specs.ListInvariant.{IsListInvariant}
use Rattle.step_law_lists.specs.ListLaw.{IsListAtRest}
use Rattle.step_table.specs.Core.{Core}
use Rattle.step_table.specs.CoreSteps.{IsCoreEnd}
use Rattle.step_law_whole.specs.CoreLaw.{AllInReach, IsCoreAtRest}
use Rattle.step_table.specs.Scenario.{IsScript}
use Rattle.step_table.specs.Run.{Run, layout}
use Rattle.step_law_whole.specs.RunInvariant.{calls_of, IsSoundRunOf, IsSoundRun, IsScenario}
use Rattle.step_law_whole.specs.RunPromises.{IsListQuiet, IsListOfRun, IsLawfulRun}
use Rattle.step_law_lists.proofs.ListKeeping.{list_reached}
use Rattle.step_law_lists.proofs.ListLawfulness.{list_lawful}
use Rattle.step_law_lists.proofs.ListEarly.{list_early}
use Rattle.step_law_lists.proofs.ListEnding.{list_ends}
use Rattle.step_law_lists.proofs.ListCalling.{list_calls, list_own, list_closed}
use Rattle.step_law_lists.proofs.ListGranting.{each_grants, rows_grant}
use Rattle.step_law_lists.proofs.ListGoing.{each_goes, rows_go}
use Rattle.step_law_whole.proofs.ListReach.{numbers_told}
use Rattle.step_law_lists.proofs.ListPromises.{the_list_law}
use Rattle.step_law_whole.proofs.CoreEnding.{list_at_rest, core_lawful, core_ends}
use Rattle.step_table.proofs.SumsOfSums.{total_most}

script_short : (parts : Parts) → IsScenario parts → (k : ℕ) → length (calls_of parts k) ≤ 32
script_short parts scenario k = by (ℕ_discrete (length parts.calls - k) 0)
  where
    by : Dec (length parts.calls - k ≡ 0) → length (get_or parts.calls k []) ≤ 32
    by (yes past) = let none = ap length (get_or-eq_default parts.calls [] {n = k} (omega arith)) in omega arith
    by (no here) = (All-get_or IsScript parts.calls k [] (omega arith) scenario.limits.scripts).1

-- what each run keeps, by whatever table
module _ {IsKeptSo : Core → Type 0} (parts : Parts) (scenario : IsScenario parts) (run : Run) (sound : IsSoundRunOf IsKeptSo parts run) where
  pub begun_few : (k : ℕ) → run.begun k ≤ 32
  begun_few k = let most = script_short parts scenario k in let begun = sound.begun k in omega arith

  -- all seats together have begun few calls, and so tickets are few
  pub all_begun_few : total (length parts.calls) run.begun ≤ 512
  all_begun_few =
      let calls = total_most (length parts.calls) 32 run.begun (λ k h. begun_few k) in
      let few = scenario.limits.seats in omega arith

  pub handed_few : (l : ℕ) → (run.core.lists l).words.numbers.handed ≤ 512
  handed_few l = let begun = all_begun_few in let handed = sound.handed l in omega arith

module _ (parts : Parts) (scenario : IsScenario parts) (run : Run) (sound : IsSoundRun parts run) where
  told_few : (l : ℕ) → (told (run.core.lists l).journal).handed ≤ 512
  told_few l =
      let is = ap (λ (n : Numbers). n.handed) (numbers_told ((layout parts).firsts l) (length parts.calls) (sound.core.lists l)) in
      let few = handed_few parts scenario run sound l in omega arith

  early : (l : ℕ) → NoneLate (length parts.calls) (run.core.lists l) × IsInReach (run.core.lists l).journal
  early l =
      list_early ((layout parts).firsts l) (length parts.calls) (run.core.lists l) (sound.core.lists l)
      (let few = told_few l in omega arith)

  none_late : (l : ℕ) → NoneLate (length parts.calls) (run.core.lists l)
  none_late l = (early l).0

  pub in_reach : AllInReach run.core
  in_reach l = (early l).1

  pub list_kept_so : (l : ℕ) → IsListInvariant ((layout parts).firsts l) (length parts.calls) (run.core.lists l)
  list_kept_so l = list_reached ((layout parts).firsts l) (length parts.calls) (run.core.lists l) (in_reach l) (sound.core.lists l)

  list_of_run : (l : ℕ) → IsListOfRun ((layout parts).firsts l) (length parts.calls) (run.core.lists l)
  list_of_run l = record {
    lawful = list_lawful first seats s (list_kept_so l);
    few = told_few l;
    early = none_late l;
    queued = (list_lawful first seats s (list_kept_so l)).queued (none_late l);
    own = list_own first seats s (in_reach l) (list_kept_so l) (none_late l);
    granted = each_grants first seats (in_reach l) (sound.core.lists l);
    grants = rows_grant first seats s (in_reach l) (sound.core.lists l);
    gone = each_goes first seats (in_reach l) (sound.core.lists l);
    goes = rows_go first seats s (in_reach l) (sound.core.lists l);
    calls = list_calls first seats s (in_reach l) (list_kept_so l);
    ends = λ ended. quiet (list_ends first seats s (list_kept_so l) ended);
    closed = list_closed first seats s (list_kept_so l);
  }
    where
      first : ℕ
      first = (layout parts).firsts l

      seats : ℕ
      seats = length parts.calls

      s : ListWorld
      s = run.core.lists l

      by : (k : ℕ) → ((s.seats k).place ≡ Rest)
          ⊎ ((t : Ticket) × ((s.seats k).place ≡ Waiting t (Parked P)) × (s.words.grants k ≡ 0) × (0 < times (wait_for k t) s.words.queue)
          × (NoneLate seats s → (told s.journal).passed ≤ t.number))
          → ((s.seats k).place ≡ Rest)
          ⊎ ((t : Ticket) × ((s.seats k).place ≡ Waiting t (Parked P)) × (s.words.grants k ≡ 0) × (0 < times (wait_for k t) s.words.queue)
          × ((told s.journal).passed ≤ t.number))
      by k (inl e) = inl e
      by k (inr e) = inr (e.0, e.1, e.2, e.3, e.4 (none_late l))

      quiet : IsListAtRest seats s → IsListQuiet seats s
      quiet rests = (rests.0, (λ k there. by k (rests.1 k there)))

  pub lawful_run : IsLawfulRun (layout parts) run.core
  lawful_run = record {
    whole = core_lawful the_list_law.reached (layout parts) run.core in_reach sound.core;
    lists = list_of_run;
  }

  pub run_ends : IsCoreEnd (layout parts) run.core → IsCoreAtRest (layout parts) run.core
  run_ends = core_ends list_at_rest (layout parts) run.core sound.core (λ l. let few = told_few l in omega arith)
