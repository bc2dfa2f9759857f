-- A seat begins its next call; and each in turn has begun its first, which is the start.
use Rattle.std.proofs.Common.{◌≡◌, ℕ, zero, suc, ◌+◌, ◌^◌, ◌<◌, ◌≤◌, List, [], Option, Some, None, length, set, replicate, refl, sym}
use Rattle.std.proofs.Common.{ap, ◌∙◌, subst, arith}
use Rattle.std.proofs.Common.{length-set}
use Rattle.std.proofs.lemmas.List.{length-replicate}
use Rattle.step_table.specs.declared.call.Call.{Call}
use Rattle.step_table.specs.declared.call.Call.TheVariants.{Acquire, Release, ReleaseMany, Add, Wait, One, All as NotifyAll, GroupAdd, GroupWait}
use Rattle.step_table.specs.declared.call.Call.TheVariants.{AcquireOrLeave, WaitOrLeave, GroupWaitOrLeave}
use Rattle.step_table.specs.declared.parts.Parts.{Parts}
use Rattle.step_rows.specs.Stored.{IsStoredFor, IsSameSize, each}
use Rattle.step_table.specs.Core.{Core, first_core, counters_of}
use Rattle.step_table.specs.CoreSteps.{calls, stands}
use Rattle.step_table.specs.Scenario.{IsCallOn}
use Rattle.step_table.specs.Run.{Run, layout, call_of, begun, all_begun}
use Rattle.step_table.specs.World.{put}
use Rattle.step_law_whole.specs.RunInvariant.{IsSoundRun, IsScenario}
use Rattle.step_law_alike.specs.declared.variant.Variant.{Variant}
use Rattle.step_law_alike.specs.ChangedInvariant.{WaitersRaisedIn}
use Rattle.step_law_alike.proofs.ChangedRaising.{raised_first}
use Rattle.step_core.specs.State.{WholeMachine, State, IsMachineFor, Becomes, HasBegun, MayBegin, IsSound, IsStarted, core_of, run_with, HasLeftOut, FewLeave}
use Rattle.step_core.specs.WellFormed.{IsSoundBy}
use Rattle.step_table.proofs.Sums.{put_else, put_here}
use Rattle.step_rows.proofs.Storing.{each_set, copies}
use Rattle.step_core.proofs.Changing.{same_layout}
use Rattle.step_core.proofs.Ranges.{well_formed_state}
use Rattle.step_law_whole.proofs.RunSound.{is_started}
use Rattle.step_core.proofs.Fewness.{few_at_start}
use Rattle.std.specs.Prelude.{min, slice_index_or}
use Rattle.step_table.specs.declared.standing.Standing.TheVariants.{Rest}

-- to begin a call tells nothing
call_journal : (s : Core) (i : ℕ) (call : Call) → (calls s i call).journal ≡ s.journal
call_journal s i (Acquire c lifo) = refl
call_journal s i (AcquireOrLeave c lifo how) = refl
call_journal s i (Release c handoff) = refl
call_journal s i (ReleaseMany c n) = refl
call_journal s i (Add l) = refl
call_journal s i (Wait l) = refl
call_journal s i (WaitOrLeave l how) = refl
call_journal s i (One l) = refl
call_journal s i (NotifyAll l) = refl
call_journal s i (GroupAdd g d) = refl
call_journal s i (GroupWait g) = refl
call_journal s i (GroupWaitOrLeave g skips) = refl

module _ (parts : Parts) (i : ℕ) (h : WholeMachine) (counts : List ℕ) (is : IsMachineFor (layout parts) h) (number : ℕ) (at : number ≡ i)
    (n : ℕ) (counted : n ≡ each 0 counts number) where
  count_is : n ≡ each 0 counts i
  count_is = counted ∙ ap (each 0 counts) at

  pub begins_one : (call : Call) (k : WholeMachine) → call_of parts number n ≡ Some call → i < length counts
      → Becomes (λ m s. calls s i call) h k → HasBegun parts i h counts k (set counts number (n + 1))
  begins_one call k one here becomes = record {
    alike = becomes.alike;
    count = length-set counts number (n + 1);
    run = λ journal.
        let core : core_of k journal ≡ calls (core_of h journal) i call
        = (λ j. core_of k (sym (call_journal (core_of h journal) i call) j)) ∙ becomes.core (layout parts) is journal in
        (λ j. run_with k (set counts (at j) (count_is j + 1)) journal)
        ∙ (λ j. record { core = core j; begun = each_set 0 counts i (each 0 counts i + 1) here j })
        ∙ (λ j. begun (run_with h counts journal) i (sym one j))
        ∙ (λ j. begun (run_with h counts journal) i (call_of parts (at j) (count_is j)));
  }

  -- and so many of its next calls are left out
  pub leaves_some : (skips x : ℕ) (k : WholeMachine) → x ≡ min (n + skips) (length (slice_index_or parts.calls i [])) → i < length counts
      → Becomes (λ m s. stands s i Rest) h k → HasLeftOut parts i skips h counts k (set counts number x)
  leaves_some skips x k least here becomes = record {
    alike = becomes.alike;
    count = length-set counts number x;
    run = λ journal.
        (λ j. run_with k (set counts (at j) x) journal)
        ∙ (λ j. record { core = becomes.core (layout parts) is journal j; begun = each_set 0 counts i x here j })
        ∙ (λ j. record {
          core = stands (core_of h journal) i Rest;
          begun = put (each 0 counts) i ((least ∙ ap (λ m. min (m + skips) (length (slice_index_or parts.calls i []))) count_is) j);
        });
    few =
        let there : each 0 (set counts number x) i ≡ x
        = ap (λ k. each 0 (set counts k x) i) at ∙ (λ j. each_set 0 counts i x here j i) ∙ put_here (each 0 counts) i x in
        omega (arith, there, least);
  }

  -- a scenario's call may be begun
  may_begin : (call : Call) → i < length parts.calls → IsCallOn parts call → MayBegin h i call
  may_begin (Add l) there on = (let a = is.lists in omega arith, let a = is.seats l on in omega arith)
  may_begin (Wait l) there on = (let a = is.lists in omega arith, let a = is.seats l on in omega arith)
  may_begin (WaitOrLeave l how) there on = (let a = is.lists in omega arith, let a = is.seats l on in omega arith)
  may_begin (One l) there on = (let a = is.lists in omega arith, let a = is.seats l on in omega arith)
  may_begin (NotifyAll l) there on = (let a = is.lists in omega arith, let a = is.seats l on in omega arith)
  may_begin _ there on = tt

-- words are stored for a scenario, and still are in a machine that is alike
pub still_stored : (own groups roots seats : ℕ) (h k : WholeMachine) → IsSameSize h.semaphores k.semaphores
    → IsStoredFor own groups roots seats h.semaphores.stored → IsStoredFor own groups roots seats k.semaphores.stored
still_stored own groups roots seats h k alike is = record {
  own_is = alike.own ∙ is.own_is;
  roots_is = alike.roots ∙ is.roots_is;
  numbers = alike.numbers ∙ is.numbers;
  lists = alike.lists ∙ is.lists;
  locks = alike.locks ∙ is.locks;
  waiters = alike.waiters ∙ is.waiters;
  grants = alike.grants ∙ is.grants;
  hands = alike.hands ∙ is.hands;
}

-- each of the first n seats has begun its first call
pub record HaveBegun (parts : Parts) (n : ℕ) (h : WholeMachine) (counts : List ℕ) : Type 0 where
  pub stored : IsStoredFor (length parts.starts) parts.groups parts.roots (length parts.calls) h.semaphores.stored
  pub machine : IsMachineFor (layout parts) h
  pub count : length counts ≡ length parts.calls
  pub run : run_with h counts [] ≡ all_begun parts (record { core = first_core (layout parts); begun = λ s. 0 }) n

module _ (parts : Parts) where
  abbrev idle_run : Run
  idle_run = record { core = first_core (layout parts); begun = λ s. 0 }

  -- nobody has
  pub none_has : (h : WholeMachine) (counts : List ℕ)
      → IsStoredFor (length parts.starts) parts.groups parts.roots (length parts.calls) h.semaphores.stored → IsMachineFor (layout parts) h
      → core_of h [] ≡ first_core (layout parts) → counts ≡ replicate (length parts.calls) 0 → HaveBegun parts 0 h counts
  none_has h counts stored is core none = record {
    stored = stored;
    machine = is;
    count = ap length none ∙ length-replicate (length parts.calls) 0;
    run = λ j. record { core = core j; begun = λ k. (ap (λ l. each 0 l k) none ∙ copies 0 (length parts.calls) k) j };
  }

  begun_else : (run : Run) (i : ℕ) (call : Option Call) (k : ℕ) → i < k → (begun run i call).begun k ≡ run.begun k
  begun_else run i None k less = refl
  begun_else run i (Some call) k less = put_else run.begun i (run.begun i + 1) k (λ e. omega arith)

  not_yet : (n k : ℕ) → n ≤ k → (all_begun parts idle_run n).begun k ≡ 0
  not_yet zero k h = refl
  not_yet (suc n) k h =
      begun_else (all_begun parts idle_run n) n (call_of parts n 0) k (omega arith) ∙ not_yet n k (omega arith)

  module _ (n : ℕ) (h : WholeMachine) (counts : List ℕ) (before : HaveBegun parts n h counts) where
    none_yet : each 0 counts n ≡ 0
    none_yet = ap (λ (run : Run). run.begun n) before.run ∙ not_yet n n (omega arith)

    pub room_yet : each 0 counts n + 1 < 2 ^ 64
    room_yet = let none = none_yet in omega arith

    one_more : (k : WholeMachine) (now : List ℕ) → HasBegun parts n h counts k now → HaveBegun parts (suc n) k now
    one_more k now is = record {
      stored = still_stored (length parts.starts) parts.groups parts.roots (length parts.calls) h k is.alike.semaphores before.stored;
      machine = same_layout (layout parts) h k is.alike before.machine;
      count = is.count ∙ before.count;
      run = is.run [] ∙ (λ j. begun (before.run j) n (call_of parts n (none_yet j)));
    }

    pub one_more_seat : (k : WholeMachine) (now : List ℕ) → HasBegun parts n h counts k now → HaveBegun parts (n + 1) k now
    one_more_seat k now is =
        let next : suc n ≡ n + 1 = omega arith in subst (λ n. HaveBegun parts n k now) next (one_more k now is)

  -- the start is sound
  module _ (h : WholeMachine) (counts : List ℕ) (all : HaveBegun parts (length parts.calls) h counts) where
    abbrev first : State
    first = record { parts = parts; machine = h; begun = counts; journal = [] }

    pub is_start : IsStarted parts first
    is_start = record { parts = refl; run = all.run }

    pub start_sound : IsScenario parts → ((c : ℕ) → each 0 parts.starts c < 2 ^ 32) → IsSound first
    start_sound scenario starts = record {
      scenario = scenario;
      starts = starts;
      stored = all.stored;
      machine = all.machine;
      begun = all.count;
      run = subst (IsSoundRun parts) (sym all.run) (is_started parts scenario);
      leave = subst (FewLeave parts) (sym all.run) (few_at_start parts);
    }

    -- and it is what each table starts from
    pub start_by : (table : Option Variant) → IsScenario parts → ((c : ℕ) → each 0 parts.starts c < 2 ^ 32) → IsSoundBy table first
    start_by None scenario starts = start_sound scenario starts
    start_by (Some v) scenario starts = record {
      scenario = scenario;
      starts = starts;
      stored = all.stored;
      machine = all.machine;
      begun = all.count;
      run = (well_formed_state first (start_sound scenario starts)).run;
      leave = subst (FewLeave parts) (sym all.run) (few_at_start parts);
      waiters =
          subst (λ (r : Run). WaitersRaisedIn v (counters_of (layout parts)) r.core.semaphores) (sym all.run) (raised_first v parts);
    }
