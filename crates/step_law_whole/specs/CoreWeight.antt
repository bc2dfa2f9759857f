-- The weight of the whole machine: that of its semaphores and lists, and what calls on wait groups still have
-- before them.
use Rattle.std.specs.Prelude.{◌≡◌, ℕ, ◌+◌, ◌-◌, ◌*◌, ◌≤◌, min, if◌then◌else◌}
use Rattle.step_table.specs.declared.place.AcquireRow.TheVariants.{Parked}
use Rattle.step_table.specs.declared.place.ParkedRow.TheVariants.{D2}
use Rattle.step_table.specs.declared.place.Place.{Place}
use Rattle.step_table.specs.declared.place.Place.TheVariants.{Acquiring}
use Rattle.step_table.specs.declared.call.Call.{Call}
use Rattle.step_table.specs.declared.call.Late.{Late}
use Rattle.step_table.specs.declared.call.Call.TheVariants.{Acquire, Release, ReleaseMany, Add, Wait, One}
use Rattle.step_table.specs.declared.call.Call.TheVariants.{All}
use Rattle.step_table.specs.declared.call.Call.TheVariants.{GroupAdd, GroupWait, AcquireOrLeave, WaitOrLeave, GroupWaitOrLeave}
use Rattle.step_table.specs.declared.group_word.GroupWord.{GroupWord}
use Rattle.step_table.specs.declared.standing.After.{After}
use Rattle.step_table.specs.declared.standing.After.TheVariants.{Closes, LooksAgain, Releases}
use Rattle.step_table.specs.declared.standing.Ending.{Ending}
use Rattle.step_table.specs.declared.standing.Ending.TheVariants.{NextCall, MayGiveUp, GaveUp, GivesBack}
use Rattle.step_table.specs.declared.standing.GroupRow.{GroupRow}
use Rattle.step_table.specs.declared.standing.GroupRow.TheVariants.{G1, G2, G3, V1, V2, V3, V4, V5}
use Rattle.step_table.specs.declared.standing.Standing.{Standing}
use Rattle.step_table.specs.declared.standing.Standing.TheVariants.{Rest, AtCounter, AtList, AtGroup, Failed}
use Rattle.step_table.specs.Counting.{total}
use Rattle.step_table.specs.Group.{same_word}
use Rattle.step_table.specs.Core.{CoreLayout, counters_of, Core}
use Rattle.step_table.specs.CoreSteps.{calls}
use Rattle.step_law_whole.specs.Misused.{counted_at}
use Rattle.step_law_whole.specs.TheCore.{MayCall}
use Rattle.step_law_whole.specs.SemaWeight.{release_cost, weight}
use Rattle.step_law_whole.specs.ListWeight.{list_weight}
use Rattle.step_table.specs.declared.call.Late.TheVariants.{Kept, GivenBack}

-- of n seats: what so many releases on a group's semaphore weigh
abbrev pub releases_weight : ℕ → ℕ → ℕ
releases_weight n more = more * (2 * n + 11)

-- what it costs to give up a wait on a group: its four rows. To be uncounted is paid for by what a sleeper keeps
abbrev pub wait_weight : Ending → ℕ
wait_weight (MayGiveUp how) = 4
wait_weight _ = 0

-- what a seat weighs at a row of a wait group. An add pays for a release of each other seat, before it knows
-- how many wait
abbrev pub group_weight : ℕ → GroupRow → ℕ
group_weight n (G1 d) = 4 * n - 1 + releases_weight n (n - 1)
group_weight n (G2 seen) = 2 * n + releases_weight n seen.waits
group_weight n (G3 seen) = 2 * n - 1 + releases_weight n seen.waits
group_weight n (V1 ending) = 4 * n + 6 + wait_weight ending
group_weight n (V2 ending seen) = 4 * n + 5 + wait_weight ending
group_weight n (V3 ending) = 1
group_weight n (V4 how) = 2 * n + 1
group_weight n (V5 how seen) = 2 * n

-- what it costs to give a late unit back: a release
abbrev pub late_weight : ℕ → Late → ℕ
late_weight n Kept = 0
late_weight n GivenBack = 2 * n + 11

-- what comes after its call on a counter, and what it costs to give up: three rows, and the giving back
abbrev pub after_weight : ℕ → After → ℕ
after_weight n (Closes NextCall) = 0
after_weight n (Closes (MayGiveUp how)) = 3 + late_weight n how.late
after_weight n (Closes (GaveUp how)) = late_weight n how.late
after_weight n (Closes (GivesBack skips)) = 0
after_weight n (LooksAgain g ending) = 1 + wait_weight ending
after_weight n (Releases g more) = releases_weight n more

-- the same of a call on a list: what comes too late is given back by a notification of one, and to give up costs
-- three rows more than to be woken
abbrev pub late_on_list_weight : Late → ℕ
late_on_list_weight Kept = 0
late_on_list_weight GivenBack = 7

abbrev pub ending_on_list_weight : Ending → ℕ
ending_on_list_weight NextCall = 0
ending_on_list_weight (MayGiveUp how) = 3 + late_on_list_weight how.late
ending_on_list_weight (GaveUp how) = late_on_list_weight how.late
ending_on_list_weight (GivesBack skips) = 0

-- what a seat that does this weighs beside what it weighs on counters and lists
abbrev pub standing_weight : ℕ → Standing → ℕ
standing_weight n (AtCounter after) = after_weight n after
standing_weight n (AtList l ending) = ending_on_list_weight ending
standing_weight n (AtGroup g row) = group_weight n row
standing_weight n _ = 0

-- 1 where it gave up a wait on a group, and may yet look at the word
abbrev pub looking_weight : Standing → Place → ℕ
looking_weight (AtCounter (LooksAgain g (GaveUp how))) (Acquiring a (Parked turn D2)) = 1
looking_weight _ place = 0

-- 2 where the exchange of a group's word is stale
abbrev pub stale_word : (ℕ → GroupWord) → Standing → ℕ
stale_word groups (AtGroup g (V2 ending seen)) = if same_word seen (groups g) then 0 else 2
stale_word groups (AtGroup g (V5 how seen)) = if same_word seen (groups g) then 0 else 2
stale_word groups _ = 0

-- what a seat that does this, at this place, weighs beside what it weighs on counters and lists
abbrev pub beside_weight : ℕ → (ℕ → GroupWord) → Standing → Place → ℕ
beside_weight n groups standing place =
    standing_weight n standing + stale_word groups standing + looking_weight standing place

abbrev pub core_weight : CoreLayout → Core → ℕ
core_weight m s =
    weight (counters_of m) s.semaphores + total m.lists (λ l. list_weight m.seats (s.lists l))
    + total m.seats (λ k. beside_weight m.seats s.groups (s.standing k) (s.semaphores.seats k).place)

-- of n seats: what a call costs
abbrev pub call_cost : ℕ → Call → ℕ
call_cost n (Acquire c lifo) = 2 * n + 5
call_cost n (AcquireOrLeave c lifo how) = 2 * n + 8 + late_weight n how.late
call_cost n (Release c handoff) = release_cost n handoff
call_cost n (ReleaseMany c units) = 2 * n + 8 * min units (n - 1) + 3
call_cost n (Add l) = 1
call_cost n (Wait l) = 5
call_cost n (WaitOrLeave l how) = 8 + late_on_list_weight how.late
call_cost n (One l) = 7
call_cost n (All l) = 7
call_cost n (GroupAdd g d) = 4 * n - 1 + releases_weight n (n - 1)
call_cost n (GroupWait g) = 4 * n + 6
call_cost n (GroupWaitOrLeave g skips) = 4 * n + 10

-- seat i, at rest, begins a call, at this cost
pub data Called (m : CoreLayout) (s : Core) (i : ℕ) : ℕ → Core → Type 0 where
  called : (call : Call) → s.standing i ≡ Rest → MayCall m s i call
      → Called m s i (call_cost m.seats call) (calls s i call)

-- 1 where the seat's wait on the group g was counted and has neither left nor ended, or it failed, at whichever group
abbrev pub counts_on : ℕ → Standing → Place → ℕ
counts_on g (Failed misuse) place = 1
counts_on g standing place = counted_at g standing place

-- no word of a group counts more waits than there are such seats. So the add of a seat that isn't one finds
-- fewer than all
abbrev pub WaitsCounted : CoreLayout → Core → Type 0
WaitsCounted m s = (g : ℕ) → (s.groups g).waits ≤ total m.seats (λ k. counts_on g (s.standing k) (s.semaphores.seats k).place)
