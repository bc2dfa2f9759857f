-- What is promised of the whole machine: each of its parts is lawful, and the journals of the parts are those
-- of the whole.
use Rattle.std.specs.Prelude.{◌≡◌, ◌≢◌, ℕ, ◌<◌, ◌≤◌, ◌⊎◌, false}
use Rattle.step_table.specs.declared.list_place.ListPlace.TheVariants as on_list
use Rattle.step_table.specs.declared.list_place.Ticket.{Ticket}
use Rattle.step_table.specs.declared.list_place.ListParkedRow.TheVariants as parked
use Rattle.step_table.specs.declared.list_place.ListPlace.{ListPlace}
use Rattle.step_table.specs.declared.list_place.WaitRow.TheVariants as wait_row
use Rattle.step_table.specs.declared.misuse.Misuse.{Misuse}
use Rattle.step_table.specs.declared.place.Place.{Place}
use Rattle.step_table.specs.declared.place.AcquireRow.{AcquireRow}
use Rattle.step_table.specs.declared.place.Place.TheVariants.{Acquiring, Releasing}
use Rattle.step_table.specs.declared.place.Place.TheVariants as on_counter
use Rattle.step_table.specs.declared.standing.After.{After}
use Rattle.step_table.specs.declared.standing.After.TheVariants.{Closes, LooksAgain, Releases}
use Rattle.step_table.specs.declared.standing.Ending.{Ending}
use Rattle.step_table.specs.declared.standing.Ending.TheVariants.{NextCall, MayGiveUp, GaveUp, GivesBack}
use Rattle.step_table.specs.declared.standing.GroupRow.{GroupRow}
use Rattle.step_table.specs.declared.standing.GroupRow.TheVariants.{V1, V2, V4, V5}
use Rattle.step_table.specs.declared.standing.Standing.{Standing}
use Rattle.step_table.specs.declared.standing.Standing.TheVariants.{Rest, AtCounter, AtList, AtGroup, Failed, Left}
use Rattle.step_table.specs.World.{SemaWorld}
use Rattle.step_law_semaphores.specs.Lawful.{Sleeps, IsLawfulWorld}
use Rattle.step_table.specs.Counting.{wait, times, counter_at}
use Rattle.step_law_semaphores.specs.Invariant.{IsInvariant}
use Rattle.step_table.specs.ListWorld.{ListWorld}
use Rattle.step_table.specs.ListTable.{wait_for}
use Rattle.step_table.specs.ListSteps.{IsListReached}
use Rattle.step_law_lists.specs.ListLawful.{IsLawfulList, IsInReach}
use Rattle.step_law_lists.specs.ListLawful as list
use Rattle.step_table.specs.Core.{CoreLayout, semaphore, counters_of, Core, OneJournalOfAll}
use Rattle.step_law_whole.specs.Naming.{EntriesNamed}
use Rattle.step_table.specs.declared.place.AcquireRow.TheVariants.{Parked, D4}
use Rattle.step_table.specs.declared.place.ParkedRow.TheVariants.{P, D3}

-- a seat at this row doesn't give up its sleep
abbrev pub IsPatient : AcquireRow → Type 0
IsPatient (Parked turn P) = Unit {0}
IsPatient (Parked turn row) = ⊥
IsPatient D4 = ⊥
IsPatient row = Unit {0}

-- the same of a wait on a group, which ends so: only one that has given up may stand at the other rows
abbrev pub IsPatientIn : Ending → AcquireRow → Type 0
IsPatientIn (GaveUp how) row = Unit {0}
IsPatientIn ending row = IsPatient row

-- the place is that of a call after which this comes: a call of the seat's own on a counter of no group, or
-- one that a call on a group makes on its semaphore, without lifo or handoff
abbrev pub IsCallBefore : CoreLayout → After → Place → Type 0
IsCallBefore m (Closes NextCall) place = (place ≢ on_counter.Rest) × (counter_at place < m.counters)
IsCallBefore m (Closes (MayGiveUp how)) (Acquiring a row) = a.counter < m.counters
IsCallBefore m (Closes (GaveUp how)) (Acquiring a row) = a.counter < m.counters
IsCallBefore m (Closes (GivesBack skips)) (Releasing r row) = (r.counter < m.counters) × (r.handoff ≡ false)
IsCallBefore m (LooksAgain g ending) (Acquiring a row) =
    (a.counter ≡ semaphore m g) × (a.lifo ≡ false) × (g < m.groups) × IsPatientIn ending row
IsCallBefore m (Releases g more) (Releasing r row) =
    (r.counter ≡ semaphore m g) × (r.handoff ≡ false) × (g < m.groups)
IsCallBefore m _ _ = ⊥

-- the place is that of a call on a list that ends so: one that may be given up is a wait, and what comes too
-- late is given back by a notification of one
abbrev pub IsListCallBefore : Ending → ListPlace → Type 0
IsListCallBefore NextCall place = place ≢ on_list.Rest
IsListCallBefore (MayGiveUp how) (on_list.Waiting t row) = Unit {0}
IsListCallBefore (GaveUp how) (on_list.Waiting t row) = Unit {0}
IsListCallBefore (GivesBack skips) (on_list.NotifyingOne h row) = Unit {0}
IsListCallBefore _ _ = ⊥

-- the seat is at rest on all counters, and on the list
abbrev pub IsOffCounters : Core → ℕ → Type 0
IsOffCounters s i = (s.semaphores.seats i).place ≡ on_counter.Rest

abbrev pub IsOffList : Core → ℕ → ℕ → Type 0
IsOffList s i l = ((s.lists l).seats i).place ≡ on_list.Rest

-- a wait on a group that hasn't been given up ends so
abbrev pub IsNotGivenUp : Ending → Type 0
IsNotGivenUp NextCall = Unit {0}
IsNotGivenUp (MayGiveUp how) = Unit {0}
IsNotGivenUp _ = ⊥

-- the seat holds the lock of the group's semaphore, its wait there is queued, and it has given up
abbrev pub IsQueuedOn : CoreLayout → ℕ → Place → Type 0
IsQueuedOn m g (Acquiring a (Parked turn D3)) = (a.counter ≡ semaphore m g) × (a.lifo ≡ false)
IsQueuedOn m g _ = ⊥

-- where a seat at a row of a group stands on the counters: at rest, but for a wait that may leave
abbrev pub IsBesideGroup : CoreLayout → ℕ → GroupRow → Place → Type 0
IsBesideGroup m g (V1 ending) place = (place ≡ on_counter.Rest) × IsNotGivenUp ending
IsBesideGroup m g (V2 ending w) place = (place ≡ on_counter.Rest) × IsNotGivenUp ending
IsBesideGroup m g (V4 how) place = IsQueuedOn m g place
IsBesideGroup m g (V5 how w) place = IsQueuedOn m g place
IsBesideGroup m g row place = place ≡ on_counter.Rest

-- the seat is at rest in each part that its call isn't on, and not in that which it is on
abbrev pub IsStanding : CoreLayout → Core → ℕ → Standing → Type 0
IsStanding m s i Rest = IsOffCounters s i × ((l : ℕ) → IsOffList s i l)
IsStanding m s i (AtCounter after) =
    IsCallBefore m after (s.semaphores.seats i).place × ((l : ℕ) → IsOffList s i l)
IsStanding m s i (AtList l ending) =
    IsOffCounters s i × IsListCallBefore ending ((s.lists l).seats i).place × (l < m.lists)
    × ((k : ℕ) → k ≢ l → IsOffList s i k)
IsStanding m s i (AtGroup g row) =
    IsBesideGroup m g row (s.semaphores.seats i).place × (g < m.groups) × ((l : ℕ) → IsOffList s i l)
IsStanding m s i (Left skips) = IsOffCounters s i × ((l : ℕ) → IsOffList s i l)
IsStanding m s i (Failed misuse) = IsOffCounters s i × ((l : ℕ) → IsOffList s i l)

abbrev pub AllStand : CoreLayout → Core → Type 0
AllStand m s = (i : ℕ) → IsStanding m s i (s.standing i)

-- what each step keeps, where it keeps this of the semaphores and this of each list
pub record IsKept (OnCounters : SemaWorld → Type 0) (OnList : ℕ → ListWorld → Type 0) (m : CoreLayout)
    (s : Core) : Type 0 where
  pub semaphores : OnCounters s.semaphores
  pub lists : (l : ℕ) → OnList l (s.lists l)
  pub journals : OneJournalOfAll s
  pub standing : AllStand m s

-- what each step keeps
pub record IsCoreInvariant (m : CoreLayout) (s : Core) : Type 0 where
  pub semaphores : IsInvariant (counters_of m) s.semaphores
  pub lists : (l : ℕ) → IsListReached (m.firsts l) m.seats (s.lists l)
  pub journals : OneJournalOfAll s
  pub standing : AllStand m s
  pub named : EntriesNamed m s

-- the journal of each list is in reach
abbrev pub AllInReach : Core → Type 0
AllInReach s = (l : ℕ) → IsInReach (s.lists l).journal

-- each part is lawful, and the entries of the journal name what is there
pub record IsLawfulCore (m : CoreLayout) (s : Core) : Type 0 where
  pub semaphores : IsLawfulWorld (counters_of m) s.semaphores
  pub lists : (l : ℕ) → IsLawfulList (m.firsts l) m.seats (s.lists l)
  pub journals : OneJournalOfAll s
  pub standing : AllStand m s
  pub named : EntriesNamed m s

-- the seat has ended its call, or has given it up
abbrev pub HasEnded : Standing → Type 0
HasEnded Rest = Unit {0}
HasEnded (Left skips) = Unit {0}
HasEnded _ = ⊥

-- the seat sleeps on a counter whose number is 0, its wait in that counter's list
abbrev pub SleepsOnCounter : Core → ℕ → Type 0
SleepsOnCounter s k =
    (c turn : ℕ) × Sleeps s.semaphores k c turn
    × (times (wait k turn) (s.semaphores.words.lists c) ≡ 1) × (s.semaphores.words.numbers c ≡ 0)

-- the seat is parked on the list l, its wait in the list, with a ticket that isn't passed
abbrev pub SleepsOnList : Core → ℕ → ℕ → Type 0
SleepsOnList s k l =
    (t : Ticket) × (((s.lists l).seats k).place ≡ on_list.Waiting t (wait_row.Parked parked.P))
    × (0 < list.times (wait_for k t) (s.lists l).words.queue)
    × ((list.told (s.lists l).journal).passed ≤ t.number)

-- no lock is held, and each seat has ended, has failed, or sleeps
abbrev pub IsCoreAtRest : CoreLayout → Core → Type 0
IsCoreAtRest m s =
    ((r : ℕ) → s.semaphores.words.locks r ≡ 0)
    × ((l : ℕ) → (s.lists l).words.lock ≡ 0)
    × ((k : ℕ) → k < m.seats
    → HasEnded (s.standing k) ⊎ ((misuse : Misuse) × (s.standing k ≡ Failed misuse))
    ⊎ ((after : After) × (s.standing k ≡ AtCounter after) × SleepsOnCounter s k)
    ⊎ ((l : ℕ) × (ending : Ending) × (s.standing k ≡ AtList l ending) × SleepsOnList s k l))
