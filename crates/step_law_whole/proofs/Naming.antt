-- Each entry that a row appends to the one journal names what is there.
use Rattle.std.proofs.Common.{◌≡◌, ℕ, zero, suc, ◌+◌, ◌<◌, ◌==◌, List, [], ◌∷◌, length, refl, All, sym, subst, arith, Bool, true, false, if◌then◌else◌}
use Rattle.std.proofs.lemmas.List.Elements.{All-push}
use Rattle.waiters.specs.declared.wait.WaitId.{WaitId}
use Rattle.step_table.specs.declared.call.Call.{Call}
use Rattle.step_table.specs.declared.call.Late.{Late}
use Rattle.step_table.specs.declared.call.GivingUp.{GivingUp}
use Rattle.step_table.specs.declared.call.Call.TheVariants.{Acquire, Release, ReleaseMany, Add, Wait, One, GroupAdd, GroupWait, AcquireOrLeave, WaitOrLeave, GroupWaitOrLeave}
use Rattle.step_table.specs.declared.call.Call.TheVariants as call
use Rattle.step_table.specs.declared.effect.Effect.{Effect}
use Rattle.step_table.specs.declared.effect.Effect.TheVariants.{Nothing, Tells}
use Rattle.step_table.specs.declared.entry.Entry.{Entry}
use Rattle.step_table.specs.declared.entry.Entry.TheVariants.{Take, Leave}
use Rattle.step_table.specs.declared.list_place.ListEffect.{ListEffect}
use Rattle.step_table.specs.declared.list_place.ListEffect.TheVariants.{HandsOut, Grants, Forgoes}
use Rattle.step_table.specs.declared.list_place.ListPlace.{ListPlace}
use Rattle.step_table.specs.declared.list_place.ListPlace.TheVariants as on_list
use Rattle.step_table.specs.declared.list_place.WaitRow.TheVariants.{E4}
use Rattle.step_table.specs.declared.place.Acquire.{Acquire as AcquireCall}
use Rattle.step_table.specs.declared.place.AcquireRow.{AcquireRow}
use Rattle.step_table.specs.declared.place.AcquireRow.TheVariants.{A2, A6, A7, A11, Parked, A3, D4}
use Rattle.step_table.specs.declared.place.Release.{Release as ReleaseCall}
use Rattle.step_table.specs.declared.place.ReleaseRow.{ReleaseRow}
use Rattle.step_table.specs.declared.place.ReleaseRow.TheVariants.{R1, R5, R6, R8}
use Rattle.step_table.specs.declared.place.ReleaseMany.{ReleaseMany as ReleaseManyCall}
use Rattle.step_table.specs.declared.place.ManyRow.{ManyRow}
use Rattle.step_table.specs.declared.place.ManyRow.TheVariants.{M1, M5}
use Rattle.step_table.specs.declared.place.Place.{Place}
use Rattle.step_table.specs.declared.place.Place.TheVariants.{Rest, Acquiring, Releasing, ReleasingMany}
use Rattle.step_table.specs.declared.standing.After.{After}
use Rattle.step_table.specs.declared.standing.After.TheVariants.{Closes, LooksAgain, Releases}
use Rattle.step_table.specs.declared.standing.Ending.{Ending}
use Rattle.step_table.specs.declared.standing.Ending.TheVariants.{NextCall, MayGiveUp, GaveUp, GivesBack}
use Rattle.step_table.specs.declared.standing.GroupNext.{GroupNext}
use Rattle.step_table.specs.declared.standing.GroupNext.TheVariants as group
use Rattle.step_table.specs.declared.standing.Standing.{Standing}
use Rattle.step_table.specs.declared.standing.Standing.TheVariants.{AtCounter, AtList, AtGroup}
use Rattle.step_table.specs.World.{SeatState, journal_after}
use Rattle.step_table.specs.Event.{Next, by_first, waiter}
use Rattle.step_table.specs.ReleaseMany.{after_leave}
use Rattle.step_table.specs.Table.{event_at}
use Rattle.step_table.specs.Steps.{event_of, finds}
use Rattle.step_table.specs.ListSteps as list
use Rattle.step_table.specs.Counting.{times, IsWithin, counter_at}
use Rattle.step_law_semaphores.specs.Invariant.{IsInvariant}
use Rattle.step_table.specs.ListSteps.{IsListReached}
use Rattle.step_table.specs.Core.{CoreLayout, counters_of, Core, journal_after_list}
use Rattle.step_table.specs.CoreSteps.{releases, calls, goes_on, after_counter, after_list, after_group, counter_row, list_row, row_of_standing, core_turned}
use Rattle.step_table.specs.CoreSteps.{comes_late, ends_given_up, may_give_up, gives_up, on_counter_row}
use Rattle.step_table.specs.CoreSteps.{comes_late_on_list, closes_on_list, may_give_up_on_list, gives_up_on_list, on_list_row, looks_again}
use Rattle.step_law_whole.specs.CoreLaw.{IsStanding, IsKept, IsCoreInvariant}
use Rattle.step_law_whole.specs.Naming.{NamesParts, EntriesNamed}
use Rattle.step_law_whole.proofs.CoreRows.{of_either}
use Rattle.step_law_semaphores.proofs.Parking.{in_a_list, in_a_hand}
use Rattle.step_law_semaphores.proofs.Placing.{same_here}
use Rattle.step_table.specs.declared.place.ParkedRow.TheVariants.{D3}
use Rattle.step_table.specs.declared.call.Late.TheVariants.{Kept, GivenBack}

-- an effect that tells no entry, or one that names what is there
abbrev EffectNames : CoreLayout → Effect → Type 0
EffectNames m (Tells e) = NamesParts m e
EffectNames m _ = Unit {0}

abbrev NextNames : CoreLayout → Next → Type 0
NextNames m next = EffectNames m next.1

-- each wait of the list is that of a seat which is there
abbrev AllSeated : ℕ → List WaitId → Type 0
AllSeated seats l = (w : WaitId) → 0 < times w l → w.seat < seats

first_seated : (seats : ℕ) (w : WaitId) (l : List WaitId) → AllSeated seats (w ∷ l) → w.seat < seats
first_seated seats w l all = all w (let here = same_here w in omega arith)

-- a row of the seat i, which finds v
module _ (m : CoreLayout) (i : ℕ) (there : i < m.seats) (seat : SeatState) (lists : ℕ → List WaitId) (v : ℕ)
    (queued : (c : ℕ) → AllSeated m.seats (lists c)) (taken : AllSeated m.seats seat.hand) where
  acquires : (a : AcquireCall) (row : AcquireRow) → a.counter < m.counters + m.groups
      → NextNames m ((event_at i seat lists (Acquiring a row)).leads v)
  acquires a (A2 left) on = of_either (NextNames m) (v == left + 1) (_, Tells (Take a.counter i)) (_, Nothing) (on, there) tt
  acquires a (A6 left) on = of_either (NextNames m) (v == left + 1) (_, Tells (Take a.counter i)) (_, Nothing) (on, there) tt
  acquires a A7 on = (on, there)
  acquires a (A11 left) on = of_either (NextNames m) (v == left + 1) (_, Tells (Take a.counter i)) (_, Nothing) (on, there) tt
  acquires a (Parked turn D3) on = (on, there)
  acquires a row on = tt

  -- the first wait of a list leaves, if there is one
  leaves : (c : ℕ) (l : List WaitId) (p : Place) (f : WaitId → Place) → c < m.counters + m.groups → AllSeated m.seats l
      → let next : Next = by_first l (p, Nothing) (λ w. (f w, Tells (Leave c w i))) in NextNames m next
  leaves c [] p f on all = tt
  leaves c (w ∷ l) p f on all = (on, first_seated m.seats w l all, there)

  waiter_there : (hand : List WaitId) → AllSeated m.seats hand → waiter i hand < m.seats
  waiter_there [] all = there
  waiter_there (w ∷ hand) all = first_seated m.seats w hand all

  releases_one : (r : ReleaseCall) (row : ReleaseRow) → r.counter < m.counters + m.groups
      → NextNames m ((event_at i seat lists (Releasing r row)).leads v)
  releases_one r R1 on = (on, there)
  releases_one r R5 on = leaves r.counter (lists r.counter) (Releasing r R6) (λ w. Releasing r R6) on (queued r.counter)
  releases_one r (R8 left) on =
      of_either (NextNames m) (v == left + 1) (_, Tells (Take r.counter (waiter i seat.hand))) (_, Nothing)
      (on, waiter_there seat.hand taken) tt
  releases_one r row on = tt

  releases_many : (r : ReleaseManyCall) (row : ManyRow) → r.counter < m.counters + m.groups
      → NextNames m ((event_at i seat lists (ReleasingMany r row)).leads v)
  releases_many r M1 on = (on, there)
  releases_many r M5 on =
      leaves r.counter (lists r.counter) _ (λ w. after_leave r (length seat.hand) (length (lists r.counter))) on (queued r.counter)
  releases_many r row on = tt

  row_names : (p : Place) → IsWithin (m.counters + m.groups) p → NextNames m ((event_at i seat lists p).leads v)
  row_names Rest within = tt
  row_names (Acquiring a row) within = acquires a row within
  row_names (Releasing r row) within = releases_one r row within
  row_names (ReleasingMany r row) within = releases_many r row within.0

-- the journal after an entry that names what is there, or after none
names_after : (m : CoreLayout) (e : Effect) (journal : List Entry) → EffectNames m e → All (NamesParts m) journal
    → All (NamesParts m) (journal_after e journal)
names_after m (Tells e) journal names all = All-push (NamesParts m) journal e all names
names_after m _ journal names all = all

names_after_list : (m : CoreLayout) (l i : ℕ) → l < m.lists → i < m.seats → (e : ListEffect) (journal : List Entry)
    → All (NamesParts m) journal → All (NamesParts m) (journal_after_list l i e journal)
names_after_list m l i on there (HandsOut t) journal all = All-push (NamesParts m) journal _ all (on, there)
names_after_list m l i on there (Grants upto) journal all = All-push (NamesParts m) journal _ all (on, there)
names_after_list m l i on there (Forgoes w) journal all = All-push (NamesParts m) journal _ all (on, there)
names_after_list m l i on there _ journal all = all

-- what comes after a row, and the beginning of a call, append nothing
releases_tell : (m : CoreLayout) (s : Core) (i g n : ℕ) → (releases m s i g n).journal ≡ s.journal
releases_tell m s i g zero = refl
releases_tell m s i g (suc n) = refl

comes_late_tells : (s : Core) (i c skips : ℕ) (late : Late) → (comes_late s i c skips late).journal ≡ s.journal
comes_late_tells s i c skips Kept = refl
comes_late_tells s i c skips GivenBack = refl

ends_tells : (s : Core) (i : ℕ) (how : GivingUp) (before : Place) → (ends_given_up s i how before).journal ≡ s.journal
ends_tells s i how (Acquiring a D4) = refl
ends_tells s i how before = comes_late_tells s i (counter_at before) how.skips how.late

looks_tells : (s : Core) (i g : ℕ) (ending : Ending) (before : Place) → (looks_again s i g ending before).journal ≡ s.journal
looks_tells s i g (GaveUp how) (Acquiring a D4) = refl
looks_tells s i g ending before = refl

goes_on_tells : (m : CoreLayout) (s : Core) (i : ℕ) (after : After) (before : Place) → (goes_on m s i after before).journal ≡ s.journal
goes_on_tells m s i (Closes NextCall) before = refl
goes_on_tells m s i (Closes (MayGiveUp how)) before = refl
goes_on_tells m s i (Closes (GaveUp how)) before = ends_tells s i how before
goes_on_tells m s i (Closes (GivesBack skips)) before = refl
goes_on_tells m s i (LooksAgain g ending) before = looks_tells s i g ending before
goes_on_tells m s i (Releases g n) before = releases_tell m s i g n

pub after_counter_tells : (m : CoreLayout) (s : Core) (i : ℕ) (after : After) (before p : Place)
    → (after_counter m s i after before p).journal ≡ s.journal
after_counter_tells m s i after before Rest = goes_on_tells m s i after before
after_counter_tells m s i (Closes (GaveUp how)) before (Acquiring a A3) = refl
after_counter_tells m s i (LooksAgain g (GaveUp how)) before (Acquiring a (Parked u D3)) = refl
after_counter_tells m s i after before p = refl

late_on_list_tells : (s : Core) (i l skips : ℕ) (late : Late) → (comes_late_on_list s i l skips late).journal ≡ s.journal
late_on_list_tells s i l skips Kept = refl
late_on_list_tells s i l skips GivenBack = refl

closes_tell : (s : Core) (i l : ℕ) (ending : Ending) (before : ListPlace) → (closes_on_list s i l ending before).journal ≡ s.journal
closes_tell s i l NextCall before = refl
closes_tell s i l (MayGiveUp how) before = refl
closes_tell s i l (GaveUp how) (on_list.Waiting t E4) = refl
closes_tell s i l (GaveUp how) before = late_on_list_tells s i l how.skips how.late
closes_tell s i l (GivesBack skips) before = refl

pub after_list_tells : (s : Core) (i l : ℕ) (ending : Ending) (before p : ListPlace) → (after_list s i l ending before p).journal ≡ s.journal
after_list_tells s i l ending before on_list.Rest = closes_tell s i l ending before
after_list_tells s i l ending before on_list.Adding = refl
after_list_tells s i l ending before (on_list.Waiting t row) = refl
after_list_tells s i l ending before (on_list.NotifyingOne h row) = refl
after_list_tells s i l ending before (on_list.NotifyingAll h row) = refl

pub after_group_tells : (m : CoreLayout) (s : Core) (i g : ℕ) (next : GroupNext) → (after_group m s i g next).journal ≡ s.journal
after_group_tells m s i g (group.Releases n) = releases_tell m s i g n
after_group_tells m s i g group.Ends = refl
after_group_tells m s i g (group.Goes row) = refl
after_group_tells m s i g (group.Fails misuse) = refl
after_group_tells m s i g (group.Acquires ending) = refl
after_group_tells m s i g (group.SleepsOn how) = refl
after_group_tells m s i g (group.Withdraws how) = refl

pub calls_tell : (s : Core) (i : ℕ) (c : Call) → (calls s i c).journal ≡ s.journal
calls_tell s i (Acquire c lifo) = refl
calls_tell s i (AcquireOrLeave c lifo how) = refl
calls_tell s i (Release c handoff) = refl
calls_tell s i (ReleaseMany c n) = refl
calls_tell s i (Add l) = refl
calls_tell s i (Wait l) = refl
calls_tell s i (WaitOrLeave l how) = refl
calls_tell s i (One l) = refl
calls_tell s i (call.All l) = refl
calls_tell s i (GroupAdd g d) = refl
calls_tell s i (GroupWait g) = refl
calls_tell s i (GroupWaitOrLeave g skips) = refl

pub names_called : (m : CoreLayout) (s : Core) (i : ℕ) (c : Call) → EntriesNamed m s → EntriesNamed m (calls s i c)
names_called m s i c all = subst (All (NamesParts m)) (sym (calls_tell s i c)) all

-- a row keeps that the entries name what is there
pub names_turned : (m : CoreLayout) (s : Core) (i : ℕ) → i < m.seats → IsCoreInvariant m s → EntriesNamed m (core_turned m s i)
names_turned m s i there inv = by (s.standing i) (inv.standing i)
  where
    counter_names : NextNames m ((event_of s.semaphores i).leads (finds m.root s.semaphores i))
    counter_names =
        row_names m i there (s.semaphores.seats i) s.semaphores.words.lists (finds m.root s.semaphores i)
        (λ c w some. (in_a_list (counters_of m) s.semaphores inv.semaphores.placed c w some).5)
        (λ w some. (in_a_hand (counters_of m) s.semaphores inv.semaphores.placed i w there some).5)
        (s.semaphores.seats i).place (inv.semaphores.seats i).within

    by : (standing : Standing) → IsStanding m s i standing → EntriesNamed m (row_of_standing m s i standing)
    by (AtCounter after) is = either (may_give_up s.semaphores i after)
      where
        either : (b : Bool) → EntriesNamed m (if b then gives_up s i after else on_counter_row m s i after)
        either true = inv.named
        either false =
            let t : Core = counter_row m s i in
            subst (All (NamesParts m)) (sym (after_counter_tells m t i after (s.semaphores.seats i).place (t.semaphores.seats i).place))
            (names_after m ((event_of s.semaphores i).leads (finds m.root s.semaphores i)).1 s.journal counter_names inv.named)
    by (AtList l ending) is = either (may_give_up_on_list (s.lists l) i ending)
      where
        either : (b : Bool) → EntriesNamed m (if b then gives_up_on_list s i l ending else on_list_row s i l ending)
        either true = inv.named
        either false =
            let t : Core = list_row s i l in
            subst (All (NamesParts m)) (sym (after_list_tells t i l ending ((s.lists l).seats i).place ((t.lists l).seats i).place))
            (names_after_list m l i is.2 there ((list.event_of (s.lists l) i).leads (list.finds (s.lists l) i)).1 s.journal inv.named)
    by (AtGroup g row) is = subst (All (NamesParts m)) (sym (after_group_tells m _ i g _)) inv.named
    by _ is = inv.named

-- the invariant is what steps keep of the parts, and that
abbrev IsKeptSo : CoreLayout → Core → Type 0
IsKeptSo m s = IsKept (IsInvariant (counters_of m)) (λ l w. IsListReached (m.firsts l) m.seats w) m s

pub kept_of : (m : CoreLayout) (s : Core) → IsCoreInvariant m s → IsKeptSo m s
kept_of m s inv = record { semaphores = inv.semaphores; lists = inv.lists; journals = inv.journals; standing = inv.standing }

pub and_named : (m : CoreLayout) (s : Core) → IsKeptSo m s → EntriesNamed m s → IsCoreInvariant m s
and_named m s kept named = record {
  semaphores = kept.semaphores;
  lists = kept.lists;
  journals = kept.journals;
  standing = kept.standing;
  named = named;
}
