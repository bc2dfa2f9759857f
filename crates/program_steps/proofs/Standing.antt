-- A row of the layer, and a call that is begun, leave what other seats do there.
use Rattle.std.proofs.Common.{◌≡◌, ◌≢◌, ℕ, zero, suc, Bool, true, false, if◌then◌else◌, refl}
use Rattle.step_table.specs.declared.call.Call.{Call}
use Rattle.step_table.specs.declared.call.Call.TheVariants.{Acquire, AcquireOrLeave, Release, ReleaseMany, Add, Wait, WaitOrLeave}
use Rattle.step_table.specs.declared.call.Call.TheVariants.{One, All, GroupAdd, GroupWait, GroupWaitOrLeave}
use Rattle.step_table.specs.declared.call.Late.{Late}
use Rattle.step_table.specs.declared.call.Late.TheVariants.{Kept, GivenBack}
use Rattle.step_table.specs.declared.call.GivingUp.{GivingUp}
use Rattle.step_table.specs.declared.list_place.ListPlace.{ListPlace}
use Rattle.step_table.specs.declared.list_place.ListPlace.TheVariants as on_list
use Rattle.step_table.specs.declared.list_place.WaitRow.TheVariants.{E4}
use Rattle.step_table.specs.declared.place.AcquireRow.TheVariants.{A3, D4, Parked}
use Rattle.step_table.specs.declared.place.ParkedRow.TheVariants.{D3}
use Rattle.step_table.specs.declared.place.Place.{Place}
use Rattle.step_table.specs.declared.place.Place.TheVariants as on_counter
use Rattle.step_table.specs.declared.standing.After.{After}
use Rattle.step_table.specs.declared.standing.After.TheVariants.{Closes, LooksAgain, Releases}
use Rattle.step_table.specs.declared.standing.Ending.{Ending}
use Rattle.step_table.specs.declared.standing.Ending.TheVariants.{NextCall, MayGiveUp, GaveUp, GivesBack}
use Rattle.step_table.specs.declared.standing.GroupNext.{GroupNext}
use Rattle.step_table.specs.declared.standing.GroupNext.TheVariants as group
use Rattle.step_table.specs.declared.standing.GroupRow.TheVariants.{G1, V1, V3, V4}
use Rattle.step_table.specs.declared.standing.Standing.{Standing}
use Rattle.step_table.specs.declared.standing.Standing.TheVariants.{Rest, AtCounter, AtList, AtGroup, Left, Failed}
use Rattle.step_table.specs.World.{put}
use Rattle.step_table.specs.Group.{group_row}
use Rattle.step_table.specs.Core.{CoreLayout, Core}
use Rattle.step_table.specs.CoreSteps.{calls, releases, goes_on, looks_again, after_counter, after_list, after_group, comes_late, ends_given_up, closes}
use Rattle.step_table.specs.CoreSteps.{comes_late_on_list, ends_given_up_on_list, may_give_up, may_give_up_on_list, gives_up}
use Rattle.step_table.specs.CoreSteps.{gives_up_on_list, given_up, given_up_after, on_counter_row, on_list_row}
use Rattle.step_table.specs.Counting.{counter_at}
use Rattle.step_table.specs.CoreSteps.{counter_row, list_row, row_of_standing, core_turned}
use Rattle.step_table.proofs.Sums.{put_else}

module _ (m : CoreLayout) (i k : ℕ) (ne : k ≢ i) where
  stands_else : (s : Core) (x : Standing) → put s.standing i x k ≡ s.standing k
  stands_else s x = put_else s.standing i x k ne

  releases_else : (s : Core) (g n : ℕ) → (releases m s i g n).standing k ≡ s.standing k
  releases_else s g zero = stands_else s Rest
  releases_else s g (suc more) = stands_else s (AtCounter (Releases g more))

  late_else : (s : Core) (c skips : ℕ) (late : Late) → (comes_late s i c skips late).standing k ≡ s.standing k
  late_else s c skips Kept = stands_else s Rest
  late_else s c skips GivenBack = stands_else s (AtCounter (Closes (GivesBack skips)))

  ends_else : (s : Core) (how : GivingUp) (before : Place) → (ends_given_up s i how before).standing k ≡ s.standing k
  ends_else s how (on_counter.Acquiring a D4) = stands_else s (Left how.skips)
  ends_else s how before = late_else s (counter_at before) how.skips how.late

  closes_else : (s : Core) (ending : Ending) (before : Place) → (closes s i ending before).standing k ≡ s.standing k
  closes_else s NextCall before = stands_else s Rest
  closes_else s (MayGiveUp how) before = stands_else s Rest
  closes_else s (GaveUp how) before = ends_else s how before
  closes_else s (GivesBack skips) before = stands_else s (Left skips)

  looks_again_else : (s : Core) (g : ℕ) (ending : Ending) (before : Place) → (looks_again s i g ending before).standing k ≡ s.standing k
  looks_again_else s g (GaveUp how) (on_counter.Acquiring a D4) = stands_else s (Left how.skips)
  looks_again_else s g ending before = stands_else s (AtGroup g (V3 ending))

  goes_on_else : (s : Core) (after : After) (before : Place) → (goes_on m s i after before).standing k ≡ s.standing k
  goes_on_else s (Closes ending) before = closes_else s ending before
  goes_on_else s (LooksAgain g ending) before = looks_again_else s g ending before
  goes_on_else s (Releases g more) before = releases_else s g more

  counter_else : (s : Core) (after : After) (before place : Place) → (after_counter m s i after before place).standing k ≡ s.standing k
  counter_else s after before on_counter.Rest = goes_on_else s after before
  counter_else s (Closes (GaveUp how)) before (on_counter.Acquiring a A3) = stands_else s (Left how.skips)
  counter_else s (LooksAgain g (GaveUp how)) before (on_counter.Acquiring a (Parked turn D3)) = stands_else s (AtGroup g (V4 how))
  counter_else s after before _ = refl

  late_on_list_else : (s : Core) (l skips : ℕ) (late : Late) → (comes_late_on_list s i l skips late).standing k ≡ s.standing k
  late_on_list_else s l skips Kept = stands_else s Rest
  late_on_list_else s l skips GivenBack = stands_else s (AtList l (GivesBack skips))

  ends_on_list_else : (s : Core) (l : ℕ) (how : GivingUp) (before : ListPlace)
      → (ends_given_up_on_list s i l how before).standing k ≡ s.standing k
  ends_on_list_else s l how (on_list.Waiting t E4) = stands_else s (Left how.skips)
  ends_on_list_else s l how before = late_on_list_else s l how.skips how.late

  list_else : (s : Core) (l : ℕ) (ending : Ending) (before place : ListPlace) → (after_list s i l ending before place).standing k ≡ s.standing k
  list_else s l NextCall before on_list.Rest = stands_else s Rest
  list_else s l (MayGiveUp how) before on_list.Rest = stands_else s Rest
  list_else s l (GaveUp how) before on_list.Rest = ends_on_list_else s l how before
  list_else s l (GivesBack skips) before on_list.Rest = stands_else s (Left skips)
  list_else s l ending before _ = refl

  group_else : (s : Core) (g : ℕ) (next : GroupNext) → (after_group m s i g next).standing k ≡ s.standing k
  group_else s g group.Ends = stands_else s Rest
  group_else s g (group.Goes row) = stands_else s (AtGroup g row)
  group_else s g (group.Fails misuse) = stands_else s (Failed misuse)
  group_else s g (group.Acquires ending) = stands_else s (AtCounter (LooksAgain g ending))
  group_else s g (group.Releases n) = releases_else s g n
  group_else s g (group.SleepsOn how) = stands_else s (AtCounter (LooksAgain g (GaveUp how)))
  group_else s g (group.Withdraws how) = stands_else s (AtCounter (LooksAgain g (GaveUp how)))

  at_counter_else : (s : Core) (after : After) (b : Bool)
      → (if b then gives_up s i after else on_counter_row m s i after).standing k ≡ s.standing k
  at_counter_else s after true = stands_else s (AtCounter (given_up_after after))
  at_counter_else s after false =
      counter_else (counter_row m s i) after (s.semaphores.seats i).place ((counter_row m s i).semaphores.seats i).place

  at_list_else : (s : Core) (l : ℕ) (ending : Ending) (b : Bool)
      → (if b then gives_up_on_list s i l ending else on_list_row s i l ending).standing k ≡ s.standing k
  at_list_else s l ending true = stands_else s (AtList l (given_up ending))
  at_list_else s l ending false =
      list_else (list_row s i l) l ending ((s.lists l).seats i).place (((list_row s i l).lists l).seats i).place

  row_else : (s : Core) (standing : Standing) → (row_of_standing m s i standing).standing k ≡ s.standing k
  row_else s Rest = refl
  row_else s (AtCounter after) = at_counter_else s after (may_give_up s.semaphores i after)
  row_else s (AtList l ending) = at_list_else s l ending (may_give_up_on_list (s.lists l) i ending)
  row_else s (AtGroup g row) =
      group_else (record s { groups = put s.groups g (group_row row (s.groups g)).0 }) g (group_row row (s.groups g)).1
  row_else s (Left skips) = refl
  row_else s (Failed misuse) = refl

  -- a row of seat i
  pub turned_else : (s : Core) → (core_turned m s i).standing k ≡ s.standing k
  turned_else s = row_else s (s.standing i)

  -- a call that it begins
  pub calls_else : (s : Core) (call : Call) → (calls s i call).standing k ≡ s.standing k
  calls_else s (Acquire c lifo) = stands_else s (AtCounter (Closes NextCall))
  calls_else s (AcquireOrLeave c lifo how) = stands_else s (AtCounter (Closes (MayGiveUp how)))
  calls_else s (Release c handoff) = stands_else s (AtCounter (Closes NextCall))
  calls_else s (ReleaseMany c n) = stands_else s (AtCounter (Closes NextCall))
  calls_else s (Add l) = stands_else s (AtList l NextCall)
  calls_else s (Wait l) = stands_else s (AtList l NextCall)
  calls_else s (WaitOrLeave l how) = stands_else s (AtList l (MayGiveUp how))
  calls_else s (One l) = stands_else s (AtList l NextCall)
  calls_else s (All l) = stands_else s (AtList l NextCall)
  calls_else s (GroupAdd g d) = stands_else s (AtGroup g (G1 d))
  calls_else s (GroupWait g) = stands_else s (AtGroup g (V1 NextCall))
  calls_else s (GroupWaitOrLeave g skips) = stands_else s (AtGroup g (V1 (MayGiveUp (record { late = Kept; skips = skips }))))
