-- The law of the whole machine.
use Rattle.std.specs.Prelude.{◌≡◌, ℕ, ◌<◌, ◌≤◌, IsTrue, Some, None, List, ◌^◌}
use Rattle.step_table.specs.declared.call.Call.{Call}
use Rattle.step_table.specs.declared.call.Call.TheVariants.{Acquire, Release, ReleaseMany, Add, Wait, One}
use Rattle.step_table.specs.declared.call.Call.TheVariants.{All, GroupAdd, GroupWait, AcquireOrLeave, WaitOrLeave, GroupWaitOrLeave}
use Rattle.step_table.specs.declared.list_place.Ticket.{Ticket}
use Rattle.step_table.specs.declared.parts.Parts.{Parts}
use Rattle.step_table.specs.declared.standing.Standing.TheVariants.{Rest}
use Rattle.step_law_lists.specs.ListLawful as list
use Rattle.step_table.specs.Core.{CoreLayout, Core, first_core}
use Rattle.step_table.specs.CoreSteps.{calls, can_run, core_turned, IsCoreEnd}
use Rattle.step_law_whole.specs.CoreLaw.{AllInReach, IsCoreInvariant, IsLawfulCore, IsCoreAtRest}
use Rattle.step_table.specs.Run.{Run, AllRun, start, stepped, refusal}
use Rattle.step_law_whole.specs.RunInvariant.{IsSoundRun, IsScenario}
use Rattle.step_law_whole.specs.Misused.{AllFairFrom, IsUnmisused}

-- what a seat at rest may call: on a counter, list or group that is there, and tickets in their turn
abbrev pub MayCall : CoreLayout → Core → ℕ → Call → Type 0
MayCall m s i (Acquire c lifo) = c < m.counters
MayCall m s i (AcquireOrLeave c lifo how) = c < m.counters
MayCall m s i (Release c handoff) = c < m.counters
MayCall m s i (ReleaseMany c n) = (c < m.counters) × (1 ≤ n) × (n ≤ 256)
MayCall m s i (Add l) = (l < m.lists) × (((s.lists l).seats i).ticket ≡ None)
MayCall m s i (Wait l) = (l < m.lists) × (t : Ticket) × (((s.lists l).seats i).ticket ≡ Some t)
MayCall m s i (WaitOrLeave l how) = (l < m.lists) × (t : Ticket) × (((s.lists l).seats i).ticket ≡ Some t)
MayCall m s i (One l) = l < m.lists
MayCall m s i (All l) = l < m.lists
MayCall m s i (GroupAdd g d) = g < m.groups
MayCall m s i (GroupWait g) = g < m.groups
MayCall m s i (GroupWaitOrLeave g skips) = g < m.groups

-- the invariant holds at every start; calls and rows keep it; each part is lawful while the journals of lists
-- are in reach; and while at most 2^63 tickets of each list were handed out, in an end world each seat has
-- ended, has failed, or sleeps. Each run of a scenario is sound; and where no add is unfair, no seat fails
pub record TheCoreLaw : Type 0 where
  pub starts : (m : CoreLayout) → IsCoreInvariant m (first_core m)
  pub called : (m : CoreLayout) (s : Core) (i : ℕ) (call : Call) → i < m.seats
      → IsCoreInvariant m s → s.standing i ≡ Rest → MayCall m s i call → IsCoreInvariant m (calls s i call)
  pub kept : (m : CoreLayout) (s : Core) (i : ℕ) → i < m.seats
      → IsCoreInvariant m s → IsTrue (can_run m s i (s.standing i)) → IsCoreInvariant m (core_turned m s i)
  pub lawful : (m : CoreLayout) (s : Core) → AllInReach s → IsCoreInvariant m s → IsLawfulCore m s
  pub ends : (m : CoreLayout) (s : Core) → IsCoreInvariant m s
      → ((l : ℕ) → (list.told (s.lists l).journal).handed ≤ 2 ^ 63) → IsCoreEnd m s → IsCoreAtRest m s
  pub started : (parts : Parts) → IsScenario parts → IsSoundRun parts (start parts)
  pub stepped : (parts : Parts) (run : Run) (i : ℕ) → IsScenario parts → IsSoundRun parts run
      → refusal parts run i ≡ None
      → IsSoundRun parts (stepped parts run i)
  pub unmisused : (parts : Parts) (schedule : List ℕ) → IsScenario parts
      → AllRun parts schedule → AllFairFrom parts (start parts) schedule → IsUnmisused parts schedule
