-- Steps of the whole machine: a seat runs the row at which it stands in the part that its call is on.
use Rattle.std.specs.Prelude.{ℕ, zero, suc, ◌<◌, ◌==◌, ◌&&◌, ◌||◌, if◌then◌else◌, Bool, true, false, IsTrue}
use Rattle.step_table.specs.declared.call.Call.{Call}
use Rattle.step_table.specs.declared.call.Call.TheVariants.{Acquire, AcquireOrLeave, Release, ReleaseMany, Add, Wait, WaitOrLeave}
use Rattle.step_table.specs.declared.call.Call.TheVariants.{One, All, GroupAdd, GroupWait, GroupWaitOrLeave}
use Rattle.step_table.specs.declared.call.GivingUp.{GivingUp}
use Rattle.step_table.specs.declared.call.Late.{Late}
use Rattle.step_table.specs.declared.call.Late.TheVariants.{Kept, GivenBack}
use Rattle.step_table.specs.declared.list_place.AllRow.TheVariants.{L1}
use Rattle.step_table.specs.declared.list_place.ListPlace.{ListPlace}
use Rattle.step_table.specs.declared.list_place.ListPlace.TheVariants.{Adding, Waiting, NotifyingOne, NotifyingAll}
use Rattle.step_table.specs.declared.list_place.ListPlace.TheVariants as on_list
use Rattle.step_table.specs.declared.list_place.ListParkedRow.TheVariants as on_row
use Rattle.step_table.specs.declared.list_place.OneRow.TheVariants.{O1}
use Rattle.step_table.specs.declared.list_place.WaitRow.TheVariants.{E4}
use Rattle.step_table.specs.declared.list_place.WaitRow.TheVariants as on_parked
use Rattle.step_table.specs.declared.place.AcquireRow.TheVariants.{A1, A3, D4, Parked}
use Rattle.step_table.specs.declared.place.ParkedRow.TheVariants.{P, D2, D3, D5}
use Rattle.step_table.specs.declared.place.ReleaseRow.TheVariants.{R1}
use Rattle.step_table.specs.declared.place.ManyRow.TheVariants.{M1}
use Rattle.step_table.specs.declared.place.Place.{Place}
use Rattle.step_table.specs.declared.place.Place.TheVariants.{Acquiring, Releasing, ReleasingMany}
use Rattle.step_table.specs.declared.place.Place.TheVariants as on_counter
use Rattle.step_table.specs.declared.standing.After.{After}
use Rattle.step_table.specs.declared.standing.After.TheVariants.{Closes, LooksAgain, Releases}
use Rattle.step_table.specs.declared.standing.Ending.{Ending}
use Rattle.step_table.specs.declared.standing.Ending.TheVariants.{NextCall, MayGiveUp, GaveUp, GivesBack}
use Rattle.step_table.specs.declared.standing.GroupNext.{GroupNext}
use Rattle.step_table.specs.declared.standing.GroupNext.TheVariants as group
use Rattle.step_table.specs.declared.standing.GroupRow.TheVariants.{G1, V1, V3, V4}
use Rattle.step_table.specs.declared.standing.Standing.{Standing}
use Rattle.step_table.specs.declared.standing.Standing.TheVariants.{Rest, AtCounter, AtList, AtGroup, Left, Failed}
use Rattle.step_table.specs.Counting.{counter_at}
use Rattle.step_table.specs.World.{SemaWorld, put, journal_after}
use Rattle.step_table.specs.ListWorld.{ListWorld}
use Rattle.step_table.specs.Steps.{event_of, finds, can_turn, turned, moved}
use Rattle.step_table.specs.ListSteps as list
use Rattle.step_table.specs.declared.group_word.GroupWord.{GroupWord}
use Rattle.step_table.specs.EventOf.{EventOf, stays}
use Rattle.step_table.specs.Turn.{Rules}
use Rattle.step_table.specs.Group.{group_event, group_row}
use Rattle.step_table.specs.Core.{CoreLayout, semaphore, Core, journal_after_list}

-- seat i does this now
abbrev pub stands : Core → ℕ → Standing → Core
stands s i standing = record s { standing = put s.standing i standing }

-- seat i stands at this row of a call on a counter
abbrev pub at_counter : Core → ℕ → Place → After → Core
at_counter s i place after = stands (record s { semaphores = moved s.semaphores i place }) i (AtCounter after)

-- seat i stands at this row of a call on the list l
abbrev pub at_list : Core → ℕ → ℕ → ListPlace → Ending → Core
at_list s i l place ending =
    stands (record s { lists = put s.lists l (list.moved (s.lists l) i place) }) i (AtList l ending)

-- seat i waits on the list l with the ticket that it holds
abbrev pub waits_on_list : Core → ℕ → ℕ → Ending → Core
waits_on_list s i l ending =
    stands (record s { lists = put s.lists l (list.waiting (s.lists l) i) }) i (AtList l ending)

-- seat i makes so many releases on the semaphore of the group g, one after the other
abbrev pub releases : CoreLayout → Core → ℕ → ℕ → ℕ → Core
releases m s i g zero = stands s i Rest
releases m s i g (suc more) =
    at_counter s i (Releasing (record { counter = semaphore m g; handoff = false }) R1) (Releases g more)

-- seat i begins this call: that is no step
abbrev pub calls : Core → ℕ → Call → Core
calls s i (Acquire c lifo) = at_counter s i (Acquiring (record { counter = c; lifo = lifo }) A1) (Closes NextCall)
calls s i (AcquireOrLeave c lifo how) =
    at_counter s i (Acquiring (record { counter = c; lifo = lifo }) A1) (Closes (MayGiveUp how))
calls s i (Release c handoff) =
    at_counter s i (Releasing (record { counter = c; handoff = handoff }) R1) (Closes NextCall)
calls s i (ReleaseMany c n) = at_counter s i (ReleasingMany (record { counter = c; units = n }) M1) (Closes NextCall)
calls s i (Add l) = at_list s i l Adding NextCall
calls s i (Wait l) = waits_on_list s i l NextCall
calls s i (WaitOrLeave l how) = waits_on_list s i l (MayGiveUp how)
calls s i (One l) = at_list s i l (NotifyingOne 0 O1) NextCall
calls s i (All l) = at_list s i l (NotifyingAll 0 L1) NextCall
calls s i (GroupAdd g d) = stands s i (AtGroup g (G1 d))
calls s i (GroupWait g) = stands s i (AtGroup g (V1 NextCall))
calls s i (GroupWaitOrLeave g skips) = stands s i (AtGroup g (V1 (MayGiveUp (record { late = Kept; skips = skips }))))

-- seat i has given up, and comes by a unit of the counter c: it keeps it, or gives it back by a release
abbrev pub comes_late : Core → ℕ → ℕ → ℕ → Late → Core
comes_late s i c skips Kept = stands s i Rest
comes_late s i c skips GivenBack =
    at_counter s i (Releasing (record { counter = c; handoff = false }) R1) (Closes (GivesBack skips))

-- the call of seat i, which has given up, ends after a row at this place: it has withdrawn its wait, or comes by
-- a unit
abbrev pub ends_given_up : Core → ℕ → GivingUp → Place → Core
ends_given_up s i how (Acquiring a D4) = stands s i (Left how.skips)
ends_given_up s i how before = comes_late s i (counter_at before) how.skips how.late

-- a call of seat i on a counter has ended, after a row at this place: what comes after it
abbrev pub closes : Core → ℕ → Ending → Place → Core
closes s i NextCall before = stands s i Rest
closes s i (MayGiveUp how) before = stands s i Rest
closes s i (GaveUp how) before = ends_given_up s i how before
closes s i (GivesBack skips) before = stands s i (Left skips)

-- a wait on the group g has ended so, after a row at this place: it has withdrawn, or looks again
abbrev pub looks_again : Core → ℕ → ℕ → Ending → Place → Core
looks_again s i g (GaveUp how) (Acquiring a D4) = stands s i (Left how.skips)
looks_again s i g ending before = stands s i (AtGroup g (V3 ending))

abbrev pub goes_on : CoreLayout → Core → ℕ → After → Place → Core
goes_on m s i (Closes ending) before = closes s i ending before
goes_on m s i (LooksAgain g ending) before = looks_again s i g ending before
goes_on m s i (Releases g more) before = releases m s i g more

-- after a row on a counter that led from the one place to the other. Who has given up and was woken doesn't
-- queue again where it finds no unit, but in a wait on a group: its unit is on the way. Such a wait looks at its
-- group's word before it is taken out
abbrev pub after_counter : CoreLayout → Core → ℕ → After → Place → Place → Core
after_counter m s i after before on_counter.Rest = goes_on m s i after before
after_counter m s i (Closes (GaveUp how)) before (Acquiring a A3) =
    stands (record s { semaphores = moved s.semaphores i on_counter.Rest }) i (Left how.skips)
after_counter m s i (LooksAgain g (GaveUp how)) before (Acquiring a (Parked turn D3)) = stands s i (AtGroup g (V4 how))
after_counter m s i after before place = s

-- the seat sleeps
abbrev pub is_asleep : Place → Bool
is_asleep (Acquiring a (Parked turn P)) = true
is_asleep _ = false

-- D1: a seat at this place, with this grant, sleeps in a call that may give up, and its grant word is 0
abbrev pub gives_up_at : Place → ℕ → After → Bool
gives_up_at place grant (Closes (MayGiveUp how)) = is_asleep place && (grant == 0)
gives_up_at place grant (LooksAgain g (MayGiveUp how)) = is_asleep place && (grant == 0)
gives_up_at place grant after = false

abbrev pub may_give_up : SemaWorld → ℕ → After → Bool
may_give_up s i after = gives_up_at (s.seats i).place (s.words.grants i) after

-- so it goes to the lock, and gives up no second time
abbrev pub leaving : Place → Place
leaving (Acquiring a (Parked turn row)) = Acquiring a (Parked turn D2)
leaving place = place

abbrev pub given_up : Ending → Ending
given_up (MayGiveUp how) = GaveUp how
given_up ending = ending

abbrev pub given_up_after : After → After
given_up_after (Closes ending) = Closes (given_up ending)
given_up_after (LooksAgain g ending) = LooksAgain g (given_up ending)
given_up_after after = after

abbrev pub gives_up : Core → ℕ → After → Core
gives_up s i after =
    stands (record s { semaphores = moved s.semaphores i (leaving (s.semaphores.seats i).place) }) i
    (AtCounter (given_up_after after))

-- the same of a seat on a list. It has given up, and its ticket was granted: it keeps that, or makes a
-- notification of one in its place
abbrev pub comes_late_on_list : Core → ℕ → ℕ → ℕ → Late → Core
comes_late_on_list s i l skips Kept = stands s i Rest
comes_late_on_list s i l skips GivenBack = at_list s i l (NotifyingOne 0 O1) (GivesBack skips)

abbrev pub ends_given_up_on_list : Core → ℕ → ℕ → GivingUp → ListPlace → Core
ends_given_up_on_list s i l how (Waiting t E4) = stands s i (Left how.skips)
ends_given_up_on_list s i l how before = comes_late_on_list s i l how.skips how.late

-- a call of seat i on the list l has ended, after a row at this place: what comes after it
abbrev pub closes_on_list : Core → ℕ → ℕ → Ending → ListPlace → Core
closes_on_list s i l NextCall before = stands s i Rest
closes_on_list s i l (MayGiveUp how) before = stands s i Rest
closes_on_list s i l (GaveUp how) before = ends_given_up_on_list s i l how before
closes_on_list s i l (GivesBack skips) before = stands s i (Left skips)

-- after a row on the list l that led from the one place to the other
abbrev pub after_list : Core → ℕ → ℕ → Ending → ListPlace → ListPlace → Core
after_list s i l ending before on_list.Rest = closes_on_list s i l ending before
after_list s i l ending before place = s

abbrev pub is_asleep_on_list : ListPlace → Bool
is_asleep_on_list (Waiting t (on_parked.Parked on_row.P)) = true
is_asleep_on_list _ = false

abbrev pub gives_up_on_list_at : ListPlace → ℕ → Ending → Bool
gives_up_on_list_at place grant (MayGiveUp how) = is_asleep_on_list place && (grant == 0)
gives_up_on_list_at place grant ending = false

abbrev pub may_give_up_on_list : ListWorld → ℕ → Ending → Bool
may_give_up_on_list s i ending = gives_up_on_list_at (s.seats i).place (s.words.grants i) ending

abbrev pub leaving_list : ListPlace → ListPlace
leaving_list (Waiting t (on_parked.Parked row)) = Waiting t (on_parked.Parked on_row.E1)
leaving_list place = place

abbrev pub gives_up_on_list : Core → ℕ → ℕ → Ending → Core
gives_up_on_list s i l ending = at_list s i l (leaving_list ((s.lists l).seats i).place) (given_up ending)

-- the seat sleeps on, though its wait is queued
abbrev pub staying : Place → Place
staying (Acquiring a (Parked turn D3)) = Acquiring a (Parked turn D5)
staying place = place

-- after a row of the group g
abbrev pub after_group : CoreLayout → Core → ℕ → ℕ → GroupNext → Core
after_group m s i g group.Ends = stands s i Rest
after_group m s i g (group.Goes row) = stands s i (AtGroup g row)
after_group m s i g (group.Fails misuse) = stands s i (Failed misuse)
after_group m s i g (group.Acquires ending) =
    at_counter s i (Acquiring (record { counter = semaphore m g; lifo = false }) A1) (LooksAgain g ending)
after_group m s i g (group.Releases n) = releases m s i g n
after_group m s i g (group.SleepsOn how) =
    at_counter s i (staying (s.semaphores.seats i).place) (LooksAgain g (GaveUp how))
after_group m s i g (group.Withdraws how) = stands s i (AtCounter (LooksAgain g (GaveUp how)))

-- the row of a group at which a seat stands that does this
abbrev pub group_event_of : Standing → EventOf ℕ GroupWord GroupNext
group_event_of (AtGroup g row) = group_event g row
group_event_of _ = stays 0 group.Ends

-- the groups
abbrev pub group_rules : CoreLayout → Rules Core ℕ GroupWord GroupNext
group_rules m = record {
  event_of = λ s i. group_event_of (s.standing i);
  found = λ s. s.groups;
  after = λ s i g w next. after_group m (record s { groups = put s.groups g w }) i g next;
}

-- the row of seat i on the semaphores
abbrev pub counter_row : CoreLayout → Core → ℕ → Core
counter_row m s i =
    record s {
      semaphores = turned m.root s.semaphores i;
      journal = journal_after ((event_of s.semaphores i).leads (finds m.root s.semaphores i)).1 s.journal;
    }

-- the row of seat i on the list l
abbrev pub list_row : Core → ℕ → ℕ → Core
list_row s i l =
    record s {
      lists = put s.lists l (list.turned (s.lists l) i);
      journal =
          journal_after_list l i ((list.event_of (s.lists l) i).leads (list.finds (s.lists l) i)).1 s.journal;
    }

-- its call goes on or ends
abbrev pub on_counter_row : CoreLayout → Core → ℕ → After → Core
on_counter_row m s i after =
    let t : Core = counter_row m s i in
    after_counter m t i after (s.semaphores.seats i).place (t.semaphores.seats i).place

abbrev pub on_list_row : Core → ℕ → ℕ → Ending → Core
on_list_row s i l ending =
    let t : Core = list_row s i l in after_list t i l ending ((s.lists l).seats i).place ((t.lists l).seats i).place

-- seat i, which does this, runs its row
abbrev pub row_of_standing : CoreLayout → Core → ℕ → Standing → Core
row_of_standing m s i Rest = s
row_of_standing m s i (AtCounter after) =
    if may_give_up s.semaphores i after then gives_up s i after else on_counter_row m s i after
row_of_standing m s i (AtList l ending) =
    if may_give_up_on_list (s.lists l) i ending then gives_up_on_list s i l ending else on_list_row s i l ending
row_of_standing m s i (AtGroup g row) =
    let next : GroupWord × GroupNext = group_row row (s.groups g) in
    after_group m (record s { groups = put s.groups g next.0 }) i g next.1
row_of_standing m s i (Left skips) = s
row_of_standing m s i (Failed misuse) = s

abbrev pub core_turned : CoreLayout → Core → ℕ → Core
core_turned m s i = row_of_standing m s i (s.standing i)

-- whether seat i, which does this, can run its row
abbrev pub can_run : CoreLayout → Core → ℕ → Standing → Bool
can_run m s i Rest = false
can_run m s i (AtCounter after) = may_give_up s.semaphores i after || can_turn m.root s.semaphores i
can_run m s i (AtList l ending) =
    may_give_up_on_list (s.lists l) i ending || list.can_turn (s.lists l) i
can_run m s i (AtGroup g row) = true
can_run m s i (Left skips) = false
can_run m s i (Failed misuse) = false

-- no seat can run a row
abbrev pub IsCoreEnd : CoreLayout → Core → Type 0
IsCoreEnd m s = (i : ℕ) → i < m.seats → IsTrue (can_run m s i (s.standing i)) → ⊥
