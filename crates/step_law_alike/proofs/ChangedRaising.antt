-- A waiter word counts its waits, and the seats that have raised it, along the steps of a machine with a changed table.
use Rattle.std.proofs.Common.{◌≡◌, ℕ, zero, suc, ◌<◌, length, Option, Some, None, refl, sym, ap, IsTrue, arith, Bool, true, false, ◌&&◌, ◌||◌, if◌then◌else◌, subst}
use Rattle.step_table.specs.declared.call.Call.{Call}
use Rattle.step_table.specs.declared.call.Late.{Late}
use Rattle.step_table.specs.declared.call.GivingUp.{GivingUp}
use Rattle.step_table.specs.declared.call.Call.TheVariants.{Acquire, Release, ReleaseMany, Add, Wait, One, All, GroupAdd, GroupWait, AcquireOrLeave, WaitOrLeave, GroupWaitOrLeave}
use Rattle.step_table.specs.declared.list_place.ListPlace.{ListPlace}
use Rattle.step_table.specs.declared.list_place.ListPlace.TheVariants as on_list
use Rattle.step_table.specs.declared.list_place.WaitRow.TheVariants.{E4}
use Rattle.step_table.specs.declared.place.Place.{Place}
use Rattle.step_table.specs.declared.place.Place.TheVariants.{Rest, Acquiring}
use Rattle.step_table.specs.declared.parts.Parts.{Parts}
use Rattle.step_table.specs.declared.standing.After.{After}
use Rattle.step_table.specs.declared.standing.After.TheVariants.{Closes, LooksAgain, Releases}
use Rattle.step_table.specs.declared.standing.Ending.{Ending}
use Rattle.step_table.specs.declared.standing.Ending.TheVariants.{NextCall, MayGiveUp, GaveUp, GivesBack}
use Rattle.step_table.specs.declared.standing.GroupNext.{GroupNext}
use Rattle.step_table.specs.declared.standing.GroupNext.TheVariants as group
use Rattle.step_table.specs.declared.standing.Standing.{Standing}
use Rattle.step_table.specs.declared.standing.Standing.TheVariants.{AtCounter, AtList, AtGroup, Left}
use Rattle.step_table.specs.declared.standing.Standing.TheVariants as doing
use Rattle.step_law_alike.specs.declared.variant.Variant.{Variant}
use Rattle.step_table.specs.World.{Layout, Words, SeatState, SemaWorld, put, first_world}
use Rattle.step_table.specs.Steps.{moved, can_turn}
use Rattle.step_law_semaphores.specs.Lawful.{waits_of}
use Rattle.step_table.specs.Core.{CoreLayout, Core, counters_of, first_core}
use Rattle.step_table.specs.CoreSteps.{at_counter, releases, calls, goes_on, after_counter, after_list, after_group, counter_row, list_row, row_of_standing}
use Rattle.step_table.specs.CoreSteps.{core_turned, can_run, comes_late, ends_given_up, may_give_up, gives_up, is_asleep, leaving, on_counter_row}
use Rattle.step_table.specs.CoreSteps.{comes_late_on_list, closes_on_list, may_give_up_on_list, gives_up_on_list, on_list_row, looks_again, staying}
use Rattle.step_law_whole.specs.CoreLaw.{IsOffCounters, IsStanding, IsQueuedOn, IsBesideGroup}
use Rattle.step_table.specs.Group.{group_row}
use Rattle.step_table.specs.Run.{Run, layout, call_of, begun, all_begun, start, continued, stepped, left_out}
use Rattle.step_table.specs.Counting.{counter_at}
use Rattle.step_law_alike.specs.Changed.{changed_place, changed, changed_stepped, changed_row}
use Rattle.step_law_alike.specs.ChangedInvariant.{IsWellFormedCore, raises_in, WaitersRaisedIn}
use Rattle.step_table.proofs.Sums.{put_here, put_else, put_at, nothing}
use Rattle.step_law_semaphores.proofs.Promises.{at_first}
use Rattle.step_law_whole.proofs.CoreKeeping as keeping
use Rattle.step_law_alike.proofs.ChangedCore.{well_formed_keep}
use Rattle.step_law_alike.proofs.ChangedWaiters.{Starts, at_rest, acquires, release, releases_many, raised_none, IsHalfway, not_yet, begins, halfway, led}
use Rattle.step_law_alike.proofs.ChangedWaiters.{at_lock, parked}
use Rattle.step_table.specs.declared.call.Late.TheVariants.{Kept, GivenBack}
use Rattle.step_table.specs.declared.place.AcquireRow.TheVariants.{A3, D4, Parked}
use Rattle.step_table.specs.declared.place.ParkedRow.TheVariants.{P, D3}
use Rattle.step_table.specs.declared.standing.GroupRow.{GroupRow}
use Rattle.step_table.specs.declared.standing.GroupRow.TheVariants.{V1, V2, V4, V5}
use Rattle.step_law_whole.proofs.GroupBeside.{IsBesideNext, leads_beside}
use Rattle.step_law_alike.specs.declared.variant.Variant.TheVariants.{NoLook, LateCount, PlainLess}

-- a change leads no seat elsewhere that was at rest, or gave up its sleep
unled_rest : (v : Variant) (p : Place) → p ≡ Rest → (q : Place) → changed_place v p q ≡ q
unled_rest v p rests q = ap (λ p. changed_place v p q) rests

unled_queued : (v : Variant) (m : CoreLayout) (g : ℕ) (p : Place) → IsQueuedOn m g p → (q : Place) → changed_place v p q ≡ q
unled_queued v m g (Acquiring a (Parked u D3)) queued (Acquiring b next) = by v
  where
    by : (v : Variant) → Acquiring b (changed_row v (Parked u D3) next) ≡ Acquiring b next
    by NoLook = refl
    by LateCount = refl
    by PlainLess = refl
unled_queued v m g (Acquiring a (Parked u D3)) queued _ = refl
unled_queued v m g _ queued q = absurd queued

unled_beside : (v : Variant) (m : CoreLayout) (g : ℕ) (row : GroupRow) (p : Place) → IsBesideGroup m g row p → (q : Place) → changed_place v p q ≡ q
unled_beside v m g (V1 ending) p beside q = unled_rest v p beside.0 q
unled_beside v m g (V2 ending w) p beside q = unled_rest v p beside.0 q
unled_beside v m g (V4 how) p queued q = unled_queued v m g p queued q
unled_beside v m g (V5 how w) p queued q = unled_queued v m g p queued q
unled_beside v m g row p rests q = unled_rest v p rests q

-- the same of the machine: what comes after a row
module _ (v : Variant) (m : CoreLayout) (i : ℕ) (s : SemaWorld) where
  abbrev Half : Core → Type 0
  Half c = IsHalfway v (counters_of m) i s c.semaphores

  starts_at : (c : Core) → Half c → IsOffCounters c i → (place : Place) (after : After) → Starts place → Half (at_counter c i place after)
  starts_at c half rests place after starts = begins v (counters_of m) i s c.semaphores half rests at_rest place starts

  after_releases : (c : Core) → Half c → IsOffCounters c i → (g n : ℕ) → Half (releases m c i g n)
  after_releases c half rests g zero = half
  after_releases c half rests g (suc n) = starts_at c half rests _ (Releases g n) release

  late : (c : Core) → Half c → IsOffCounters c i → (d skips : ℕ) (late : Late) → Half (comes_late c i d skips late)
  late c half rests d skips Kept = half
  late c half rests d skips GivenBack = starts_at c half rests _ (Closes (GivesBack skips)) release

  ends : (c : Core) → Half c → IsOffCounters c i → (how : GivingUp) (before : Place) → Half (ends_given_up c i how before)
  ends c half rests how (Acquiring a D4) = half
  ends c half rests how before = late c half rests (counter_at before) how.skips how.late

  looks : (c : Core) → Half c → (g : ℕ) (ending : Ending) (before : Place) → Half (looks_again c i g ending before)
  looks c half g (GaveUp how) (Acquiring a D4) = half
  looks c half g ending before = half

  goes : (c : Core) → Half c → IsOffCounters c i → (after : After) (before : Place) → Half (goes_on m c i after before)
  goes c half rests (Closes NextCall) before = half
  goes c half rests (Closes (MayGiveUp how)) before = half
  goes c half rests (Closes (GaveUp how)) before = ends c half rests how before
  goes c half rests (Closes (GivesBack skips)) before = half
  goes c half rests (LooksAgain g ending) before = looks c half g ending before
  goes c half rests (Releases g n) before = after_releases c half rests g n

  settles : (c : Core) → Half c → (after : After) (before place : Place) → (c.semaphores.seats i).place ≡ place
      → Half (after_counter m c i after before place)
  settles c half after before Rest here = goes c half here after before
  settles c half (Closes (GaveUp how)) before (Acquiring a A3) here = begins v (counters_of m) i s c.semaphores half here at_lock Rest at_rest
  settles c half (LooksAgain g (GaveUp how)) before (Acquiring a (Parked u D3)) here = half
  settles c half after before place here = half

  late_on_list : (c : Core) → Half c → (l skips : ℕ) (late : Late) → Half (comes_late_on_list c i l skips late)
  late_on_list c half l skips Kept = half
  late_on_list c half l skips GivenBack = half

  closes_so : (c : Core) → Half c → (l : ℕ) (ending : Ending) (before : ListPlace) → Half (closes_on_list c i l ending before)
  closes_so c half l NextCall before = half
  closes_so c half l (MayGiveUp how) before = half
  closes_so c half l (GaveUp how) (on_list.Waiting t E4) = half
  closes_so c half l (GaveUp how) before = late_on_list c half l how.skips how.late
  closes_so c half l (GivesBack skips) before = half

  settles_on_list : (c : Core) → Half c → (l : ℕ) (ending : Ending) (before place : ListPlace) → Half (after_list c i l ending before place)
  settles_on_list c half l ending before on_list.Rest = closes_so c half l ending before
  settles_on_list c half l ending before _ = half

  -- a seat sleeps on beside its queued wait
  sleeps_on : (c : Core) → Half c → (g : ℕ) (how : GivingUp) (p : Place) → (c.semaphores.seats i).place ≡ p → IsQueuedOn m g p
      → Half (at_counter c i (staying (c.semaphores.seats i).place) (LooksAgain g (GaveUp how)))
  sleeps_on c half g how (Acquiring a (Parked u D3)) here queued =
      begins v (counters_of m) i s c.semaphores half here parked (staying (c.semaphores.seats i).place)
      (subst (λ p. Starts (staying p)) (sym here) parked)
  sleeps_on c half g how _ here queued = absurd queued

  settles_on_group : (c : Core) → Half c → (g : ℕ) (next : GroupNext) → IsBesideNext m g next (c.semaphores.seats i).place
      → Half (after_group m c i g next)
  settles_on_group c half g group.Ends beside = half
  settles_on_group c half g (group.Goes row) beside = half
  settles_on_group c half g (group.Fails misuse) beside = half
  settles_on_group c half g (group.Acquires ending) beside = starts_at c half beside.0 _ (LooksAgain g ending) acquires
  settles_on_group c half g (group.Releases n) rests = after_releases c half rests g n
  settles_on_group c half g (group.SleepsOn how) queued = sleeps_on c half g how (c.semaphores.seats i).place refl queued
  settles_on_group c half g (group.Withdraws how) queued = half

  called : (c : Core) → Half c → IsOffCounters c i → (call : Call) → Half (calls c i call)
  called c half rests (Acquire d lifo) = starts_at c half rests _ (Closes NextCall) acquires
  called c half rests (AcquireOrLeave d lifo how) = starts_at c half rests _ (Closes (MayGiveUp how)) acquires
  called c half rests (Release d handoff) = starts_at c half rests _ (Closes NextCall) release
  called c half rests (ReleaseMany d n) = starts_at c half rests _ (Closes NextCall) releases_many
  called c half rests (Add l) = half
  called c half rests (Wait l) = half
  called c half rests (WaitOrLeave l how) = half
  called c half rests (One l) = half
  called c half rests (All l) = half
  called c half rests (GroupAdd g d) = half
  called c half rests (GroupWait g) = half
  called c half rests (GroupWaitOrLeave g skips) = half

  next_begun : (run : Run) → Half run.core → IsOffCounters run.core i → (call : Option Call) → Half (begun run i call).core
  next_begun run half rests None = half
  next_begun run half rests (Some call) = called run.core half rests call

  goes_on_so : (parts : Parts) (run : Run) → Half run.core → (standing : Standing) → IsStanding m run.core i standing
      → Half (continued parts run i standing).core
  goes_on_so parts run half doing.Rest is = next_begun run half is.0 (call_of parts i (run.begun i))
  goes_on_so parts run half (doing.Left skips) is =
      let next : Run = left_out parts run i skips in next_begun next half is.0 (call_of parts i (next.begun i))
  goes_on_so parts run half _ is = half

-- a step by a changed table keeps the count
module _ (v : Variant) (m : CoreLayout) (s : Core) (i : ℕ) (in_range : i < m.seats) (inv : IsWellFormedCore m s)
    (waiters : WaitersRaisedIn v (counters_of m) s.semaphores) where
  row_halfway : (standing : Standing) → s.standing i ≡ standing → IsStanding m s i standing → IsTrue (can_run m s i standing)
      → IsHalfway v (counters_of m) i s.semaphores (row_of_standing m s i standing).semaphores
  row_halfway (AtCounter after) at is can = by (may_give_up s.semaphores i after) refl can
    where
      asleep : (p : Place) (b : Bool) → is_asleep p && b ≡ true → Starts p × Starts (leaving p)
      asleep (Acquiring a (Parked u P)) b may = (parked, parked)
      asleep p b may = absurd cc

      gives : (after : After) → may_give_up s.semaphores i after ≡ true
          → IsHalfway v (counters_of m) i s.semaphores (gives_up s i after).semaphores
      gives (LooksAgain g (MayGiveUp how)) may =
          let p = (s.semaphores.seats i).place in
          let starts = asleep p _ may in
          begins v (counters_of m) i s.semaphores s.semaphores (not_yet v (counters_of m) i s.semaphores) refl starts.0 (leaving p) starts.1
      gives (Closes (MayGiveUp how)) may =
          let p = (s.semaphores.seats i).place in
          let starts = asleep p _ may in
          begins v (counters_of m) i s.semaphores s.semaphores (not_yet v (counters_of m) i s.semaphores) refl starts.0 (leaving p) starts.1
      gives _ may = absurd cc

      by : (b : Bool) → may_give_up s.semaphores i after ≡ b → IsTrue (b || can_turn m.root s.semaphores i)
          → IsHalfway v (counters_of m) i s.semaphores (if b then gives_up s i after else on_counter_row m s i after).semaphores
      by true may can = gives after may
      by false may can =
          let t : Core = counter_row m s i in
          settles v m i s.semaphores t (halfway v (counters_of m) i s.semaphores in_range inv.semaphores waiters can) after
          (s.semaphores.seats i).place (t.semaphores.seats i).place refl
  row_halfway (AtList l ending) at is can = by (may_give_up_on_list (s.lists l) i ending)
    where
      by : (b : Bool)
          → IsHalfway v (counters_of m) i s.semaphores (if b then gives_up_on_list s i l ending else on_list_row s i l ending).semaphores
      by true = not_yet v (counters_of m) i s.semaphores
      by false =
          let t : Core = list_row s i l in
          settles_on_list v m i s.semaphores t (not_yet v (counters_of m) i s.semaphores) l ending ((s.lists l).seats i).place
          ((t.lists l).seats i).place
  row_halfway (AtGroup g row) at is can =
      let t : Core = record s { groups = put s.groups g (group_row row (s.groups g)).0 } in
      settles_on_group v m i s.semaphores t (not_yet v (counters_of m) i s.semaphores) g (group_row row (s.groups g)).1
      (leads_beside m g row (s.groups g) (s.semaphores.seats i).place is.0)
  row_halfway _ at is can = cc

  module _ (t : Core) (half : IsHalfway v (counters_of m) i s.semaphores t.semaphores) where
    changed_raised : (standing : Standing) → IsStanding m s i standing → IsTrue (can_run m s i standing)
        → WaitersRaisedIn v (counters_of m) (changed v s t i standing).semaphores
    changed_raised (AtCounter after) is can =
        let place : Place = changed_place v (s.semaphores.seats i).place (t.semaphores.seats i).place in
        let seat : SeatState = record (t.semaphores.seats i) { place = place } in
        led v (counters_of m) i s.semaphores in_range inv.semaphores waiters t.semaphores (moved t.semaphores i place) half refl
        (λ k ne. ap (λ (z : SeatState). z.place) (put_else t.semaphores.seats i seat k ne))
        (λ r. ap (λ (z : SeatState). raises_in v m.root r z.place) (put_here t.semaphores.seats i seat))
    changed_raised (AtList l ending) is can = unled is.0
      where
        unled : IsOffCounters s i → WaitersRaisedIn v (counters_of m) t.semaphores
        unled rests =
            led v (counters_of m) i s.semaphores in_range inv.semaphores waiters t.semaphores t.semaphores half refl (λ k ne. refl)
            (λ r. ap (λ p. raises_in v m.root r (changed_place v p (t.semaphores.seats i).place)) (sym rests))
    changed_raised (AtGroup g row) is can =
        led v (counters_of m) i s.semaphores in_range inv.semaphores waiters t.semaphores t.semaphores half refl (λ k ne. refl)
        (λ r. ap (raises_in v m.root r) (sym (unled_beside v m g row (s.semaphores.seats i).place is.0 (t.semaphores.seats i).place)))
    changed_raised _ is can = cc

pub waiters_stepped : (v : Variant) (parts : Parts) (run : Run) (i : ℕ) → i < length parts.calls
    → IsWellFormedCore (layout parts) run.core → WaitersRaisedIn v (counters_of (layout parts)) run.core.semaphores
    → IsTrue (can_run (layout parts) run.core i (run.core.standing i))
    → WaitersRaisedIn v (counters_of (layout parts)) (changed_stepped v parts run i).core.semaphores
waiters_stepped v parts run i there inv waiters can =
    changed_raised v (layout parts) run.core i there inv waiters (stepped parts run i).core half (run.core.standing i) (inv.standing i) can
  where
    turned_so : IsWellFormedCore (layout parts) (core_turned (layout parts) run.core i)
    turned_so = keeping.kept (layout parts) (well_formed_keep (layout parts)) run.core i there inv can

    half : IsHalfway v (counters_of (layout parts)) i run.core.semaphores (stepped parts run i).core.semaphores
    half =
        goes_on_so v (layout parts) i run.core.semaphores parts (record run { core = core_turned (layout parts) run.core i })
        (row_halfway v (layout parts) run.core i there inv waiters (run.core.standing i) refl (inv.standing i) can)
        ((core_turned (layout parts) run.core i).standing i) (turned_so.standing i)

-- nothing is raised at the start
record HasStarted (m : CoreLayout) (run : Run) : Type 0 where
  words : run.core.semaphores.words ≡ (first_world m.starts).words
  seats : (k : ℕ) → Starts (run.core.semaphores.seats k).place

seated : (m : CoreLayout) (run : Run) (i : ℕ) (place : Place) (after : After) → Starts place → HasStarted m run
    → HasStarted m (record { core = at_counter run.core i place after; begun = run.begun })
seated m run i place after starts has = record {
  words = has.words;
  seats = λ k. put_at (λ k (z : SeatState). Starts z.place) run.core.semaphores.seats i (record (run.core.semaphores.seats i) { place = place }) k
      starts (λ ne. has.seats k);
}

starts_now : (m : CoreLayout) (run : Run) (i : ℕ) (call : Call) → HasStarted m run
    → HasStarted m (record { core = calls run.core i call; begun = run.begun })
starts_now m run i (Acquire d lifo) has = seated m run i _ (Closes NextCall) acquires has
starts_now m run i (AcquireOrLeave d lifo how) has = seated m run i _ (Closes (MayGiveUp how)) acquires has
starts_now m run i (Release d handoff) has = seated m run i _ (Closes NextCall) release has
starts_now m run i (ReleaseMany d n) has = seated m run i _ (Closes NextCall) releases_many has
starts_now m run i (Add l) has = record { words = has.words; seats = has.seats }
starts_now m run i (Wait l) has = record { words = has.words; seats = has.seats }
starts_now m run i (WaitOrLeave l how) has = record { words = has.words; seats = has.seats }
starts_now m run i (One l) has = record { words = has.words; seats = has.seats }
starts_now m run i (All l) has = record { words = has.words; seats = has.seats }
starts_now m run i (GroupAdd g d) has = record { words = has.words; seats = has.seats }
starts_now m run i (GroupWait g) has = record { words = has.words; seats = has.seats }
starts_now m run i (GroupWaitOrLeave g skips) has = record { words = has.words; seats = has.seats }

all_start : (parts : Parts) (n : ℕ)
    → HasStarted (layout parts) (all_begun parts (record { core = first_core (layout parts); begun = λ s. 0 }) n)
all_start parts zero = record { words = refl; seats = λ k. at_rest }
all_start parts (suc n) =
    by (all_begun parts (record { core = first_core (layout parts); begun = λ s. 0 }) n) (all_start parts n) (call_of parts n 0)
  where
    by : (run : Run) → HasStarted (layout parts) run → (call : Option Call) → HasStarted (layout parts) (begun run n call)
    by run has None = has
    by run has (Some call) = let now = starts_now (layout parts) run n call has in record { words = now.words; seats = now.seats }

pub raised_first : (v : Variant) (parts : Parts) → WaitersRaisedIn v (counters_of (layout parts)) (start parts).core.semaphores
raised_first v parts r =
    let has = all_start parts (length parts.calls) in
    let m : Layout = counters_of (layout parts) in
    let none = nothing m.seats (λ k. raises_in v m.root r ((start parts).core.semaphores.seats k).place)
    (λ k. raised_none v m.root r (has.seats k)) in
    let first = (at_first m).waiters r in
    let no_raise = nothing m.seats (λ k. 0) (λ k. refl) in
    let waiter = ap (λ (g : Words). g.waiters r) has.words in
    let waiting = ap (waits_of m r) has.words in omega arith
