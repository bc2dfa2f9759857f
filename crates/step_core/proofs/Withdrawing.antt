-- Each call withdraws at most one wait, by whatever table.
use Rattle.std.proofs.Common.{◌≡◌, ℕ, zero, suc, ◌+◌, ◌≤◌, Bool, true, false, ◌==◌, ◌&&◌, if◌then◌else◌, nat_lt, List, [], ◌∷◌, length}
use Rattle.std.proofs.Common.{refl, ap, ap₂, ◌∙◌, arith}
use Rattle.waiters.specs.declared.wait.WaitId.{WaitId}
use Rattle.step_table.specs.declared.call.Call.{Call}
use Rattle.step_table.specs.declared.call.Call.TheVariants.{Acquire, AcquireOrLeave, Release, ReleaseMany, Add, Wait, WaitOrLeave, One, GroupAdd, GroupWait}
use Rattle.step_table.specs.declared.call.Call.TheVariants.{GroupWaitOrLeave}
use Rattle.step_table.specs.declared.call.Call.TheVariants.{All as NotifyAll}
use Rattle.step_table.specs.declared.call.GivingUp.{GivingUp}
use Rattle.step_table.specs.declared.call.Late.{Late}
use Rattle.step_table.specs.declared.call.Late.TheVariants.{Kept, GivenBack}
use Rattle.step_table.specs.declared.effect.Effect.TheVariants.{Nothing, Tells}
use Rattle.step_table.specs.declared.entry.Entry.TheVariants.{Take, Leave}
use Rattle.step_table.specs.declared.group_word.GroupWord.{GroupWord}
use Rattle.step_table.specs.declared.list_place.ListPlace.{ListPlace}
use Rattle.step_table.specs.declared.list_place.ListPlace.TheVariants as on_list
use Rattle.step_table.specs.declared.list_place.WaitRow.TheVariants.{E4}
use Rattle.step_table.specs.declared.place.Acquire.{Acquire as AcquireCall}
use Rattle.step_table.specs.declared.place.AcquireRow.{AcquireRow}
use Rattle.step_table.specs.declared.place.AcquireRow.TheVariants.{A1, A2, A3, A4, A5, A6, A7, A8, A9, A10, A11, D4, Parked}
use Rattle.step_table.specs.declared.place.ParkedRow.TheVariants.{P, D2, D3, D5}
use Rattle.step_table.specs.declared.place.ManyRow.{ManyRow}
use Rattle.step_table.specs.declared.place.ManyRow.TheVariants.{M1, M2, M3, M4, M5, M6, M7}
use Rattle.step_table.specs.declared.place.Release.{Release as ReleaseCall}
use Rattle.step_table.specs.declared.place.ReleaseMany.{ReleaseMany as ManyCall}
use Rattle.step_table.specs.declared.place.ReleaseRow.{ReleaseRow}
use Rattle.step_table.specs.declared.place.ReleaseRow.TheVariants.{R1, R2, R3, R4, R5, R6, R7, R8, R9, R10}
use Rattle.step_table.specs.declared.place.Place.{Place}
use Rattle.step_table.specs.declared.place.Place.TheVariants as on_counter
use Rattle.step_table.specs.declared.place.Place.TheVariants.{Acquiring, Releasing, ReleasingMany}
use Rattle.step_table.specs.declared.standing.After.{After}
use Rattle.step_table.specs.declared.standing.After.TheVariants.{Closes, LooksAgain, Releases}
use Rattle.step_table.specs.declared.standing.Ending.{Ending}
use Rattle.step_table.specs.declared.standing.Ending.TheVariants.{NextCall, MayGiveUp, GaveUp, GivesBack}
use Rattle.step_table.specs.declared.standing.GroupNext.{GroupNext}
use Rattle.step_table.specs.declared.standing.GroupNext.TheVariants as group
use Rattle.step_table.specs.declared.standing.GroupRow.{GroupRow}
use Rattle.step_table.specs.declared.standing.GroupRow.TheVariants.{G1, G2, G3, V1, V2, V3, V4, V5}
use Rattle.step_table.specs.declared.misuse.Misuse.TheVariants.{Negative, AddWithWait, Reused}
use Rattle.step_table.specs.declared.standing.Standing.{Standing}
use Rattle.step_table.specs.declared.standing.Standing.TheVariants.{Rest, AtCounter, AtList, AtGroup, Left, Failed}
use Rattle.step_table.specs.World.{SeatState, SemaWorld, put, stands_in, seat_after}
use Rattle.step_table.specs.Event.{Next, zero_or, by_first}
use Rattle.step_table.specs.ReleaseMany.{after_leave}
use Rattle.step_table.specs.Table.{event_at}
use Rattle.step_table.specs.Steps.{event_of, finds, moved}
use Rattle.std.specs.Prelude.{not, ◌||◌, int_lt, pos}
use Rattle.std.specs.Ordering.{int_eq}
use Rattle.step_table.specs.Group.{group_row, plus, same_word, empty_word}
use Rattle.step_table.specs.Core.{CoreLayout, Core, semaphore}
use Rattle.step_table.specs.CoreSteps.{stands, at_counter, releases, calls, comes_late, ends_given_up, closes, looks_again, goes_on, after_counter, leaving, gives_up}
use Rattle.step_table.specs.CoreSteps.{is_asleep, staying}
use Rattle.step_table.specs.CoreSteps.{may_give_up, gives_up_at, gives_up_on_list, may_give_up_on_list, after_list, after_group, counter_row, list_row, on_list_row}
use Rattle.step_table.specs.CoreSteps.{on_counter_row, comes_late_on_list, ends_given_up_on_list, closes_on_list, row_of_standing, given_up_after, given_up}
use Rattle.step_law_semaphores.specs.Lawful.{withdrawals}
use Rattle.step_law_semaphores.proofs.Telling.{entries, count_after}
use Rattle.step_law_semaphores.proofs.Counting.{withdrawals_counts}
use Rattle.step_law_alike.specs.declared.variant.Variant.{Variant}
use Rattle.step_law_alike.specs.declared.variant.Variant.TheVariants.{NoLook, LateCount}
use Rattle.step_law_alike.specs.Changed.{changed_row, changed_place, changed}
use Rattle.step_core.specs.State.{may_be_left, may_leave, may_withdraw, may_sleep}
use Rattle.step_core.proofs.Once.{Counts, IsOnce}
use Rattle.step_table.proofs.Sums.{put_here, put_else}

left_most : (ending : Ending) → may_be_left ending ≤ 1
left_most NextCall = omega arith
left_most (MayGiveUp how) = omega arith
left_most (GaveUp how) = omega arith
left_most (GivesBack skips) = omega arith

leave_most : (doing : Standing) → may_leave doing ≤ 1
leave_most (AtCounter (Closes ending)) = left_most ending
leave_most (AtCounter (LooksAgain g ending)) = left_most ending
leave_most (AtCounter (Releases g more)) = omega arith
leave_most (AtList l ending) = omega arith
leave_most (AtGroup g row) = omega arith
leave_most Rest = omega arith
leave_most (Left skips) = omega arith
leave_most (Failed misuse) = omega arith

module _ (doing : Standing) where
  pub withdraw_most : (p : Place) → may_withdraw p doing ≤ 1
  withdraw_most (Acquiring a (Parked turn D2)) = omega arith
  withdraw_most (Acquiring a (Parked turn D3)) = omega arith
  withdraw_most (Acquiring a (Parked turn row)) = leave_most doing
  withdraw_most (Acquiring a D4) = omega arith
  withdraw_most (Acquiring a row) = leave_most doing
  withdraw_most on_counter.Rest = omega arith
  withdraw_most (Releasing r row) = omega arith
  withdraw_most (ReleasingMany r row) = omega arith

  -- who stops a call on a counter withdraws no more than before
  less_off : (p : Place) (now : Standing) → may_leave now ≡ 0 → may_withdraw p now ≤ may_withdraw p doing
  less_off (Acquiring a (Parked turn D2)) now off = omega arith
  less_off (Acquiring a (Parked turn D3)) now off = omega arith
  less_off (Acquiring a (Parked turn row)) now off = omega arith
  less_off (Acquiring a D4) now off = omega arith
  less_off (Acquiring a row) now off = omega arith
  less_off on_counter.Rest now off = omega arith
  less_off (Releasing r row) now off = omega arith
  less_off (ReleasingMany r row) now off = omega arith

  -- nor does who sleeps on
  less_on : (p : Place) (now : Standing) → may_leave now ≡ 0 → may_withdraw (staying p) now ≤ may_withdraw p doing
  less_on (Acquiring a (Parked turn D3)) now off = omega arith
  less_on (Acquiring a (Parked turn D2)) now off = omega arith
  less_on (Acquiring a (Parked turn row)) now off = omega arith
  less_on (Acquiring a D4) now off = omega arith
  less_on (Acquiring a row) now off = omega arith
  less_on on_counter.Rest now off = omega arith
  less_on (Releasing r row) now off = omega arith
  less_on (ReleasingMany r row) now off = omega arith

  -- what a row from this place leads to
  abbrev Leads : Place → Next → Type 0
  Leads p next = withdrawals (entries next.1) + may_withdraw next.0 doing ≤ may_withdraw p doing

  by_zero : (from p : Place) (f : ℕ → Place) (v : ℕ) → may_withdraw p doing ≤ may_withdraw from doing
      → ((left : ℕ) → may_withdraw (f left) doing ≤ may_withdraw from doing) → Leads from (zero_or p f v, Nothing)
  by_zero from p f zero at_zero above = omega arith
  by_zero from p f (suc left) at_zero above = let less = above left in omega arith

  by_test : (from : Place) (b : Bool) (x y : Next) → Leads from x → Leads from y → Leads from (if b then x else y)
  by_test from true x y first second = first
  by_test from false x y first second = second

  acquire_leads : (i t : ℕ) (hand : List WaitId) (lists : ℕ → List WaitId) (a : AcquireCall) (row : AcquireRow) (v : ℕ)
      → Leads (Acquiring a row) ((event_at i (record { place = Acquiring a row; turn = t; hand = hand }) lists (Acquiring a row)).leads v)
  acquire_leads i t hand lists a A1 v = by_zero (Acquiring a A1) (Acquiring a A3) (λ left. Acquiring a (A2 left)) v (omega arith) (λ left. omega arith)
  acquire_leads i t hand lists a (A2 n) v =
      by_test (Acquiring a (A2 n)) (v == n + 1) (on_counter.Rest, Tells (Take a.counter i)) (Acquiring a A1, Nothing) (omega arith) (omega arith)
  acquire_leads i t hand lists a A3 v = omega arith
  acquire_leads i t hand lists a A4 v = omega arith
  acquire_leads i t hand lists a A5 v = by_zero (Acquiring a A5) (Acquiring a A7) (λ left. Acquiring a (A6 left)) v (omega arith) (λ left. omega arith)
  acquire_leads i t hand lists a (A6 n) v =
      by_test (Acquiring a (A6 n)) (v == n + 1) (Acquiring a A8, Tells (Take a.counter i)) (Acquiring a A5, Nothing) (omega arith) (omega arith)
  acquire_leads i t hand lists a A7 v = omega arith
  acquire_leads i t hand lists a A8 v = omega arith
  acquire_leads i t hand lists a A9 v = omega arith
  acquire_leads i t hand lists a A10 v = by_zero (Acquiring a A10) (Acquiring a A3) (λ left. Acquiring a (A11 left)) v (omega arith) (λ left. omega arith)
  acquire_leads i t hand lists a (A11 n) v =
      by_test (Acquiring a (A11 n)) (v == n + 1) (on_counter.Rest, Tells (Take a.counter i)) (Acquiring a A10, Nothing) (omega arith) (omega arith)
  acquire_leads i t hand lists a D4 v = omega arith
  acquire_leads i t hand lists a (Parked turn P) v = by (v == 1)
    where
      by : (b : Bool) → Leads (Acquiring a (Parked turn P)) (if b then Acquiring a A10 else on_counter.Rest, Nothing)
      by true = omega arith
      by false = omega arith
  acquire_leads i t hand lists a (Parked turn D2) v = by (stands_in i (lists a.counter))
    where
      by : (b : Bool) → Leads (Acquiring a (Parked turn D2)) (if b then Acquiring a (Parked turn D3) else Acquiring a (Parked turn D5), Nothing)
      by true = omega arith
      by false = let most = leave_most doing in omega arith
  acquire_leads i t hand lists a (Parked turn D3) v = omega arith
  acquire_leads i t hand lists a (Parked turn D5) v = omega arith

  -- a release withdraws nothing
  abbrev Quiet : Next → Type 0
  Quiet next = withdrawals (entries next.1) + may_withdraw next.0 doing ≤ 0

  first_quiet : (l : List WaitId) (none : Next) (some : WaitId → Next) → Quiet none → ((w : WaitId) → Quiet (some w)) → Quiet (by_first l none some)
  first_quiet [] none some a b = a
  first_quiet (w ∷ l) none some a b = b w

  place_quiet : (l : List WaitId) (none : Place) (some : WaitId → Place) → may_withdraw none doing ≤ 0
      → ((w : WaitId) → may_withdraw (some w) doing ≤ 0) → may_withdraw (by_first l none some) doing ≤ 0
  place_quiet [] none some a b = a
  place_quiet (w ∷ l) none some a b = b w

  zero_quiet : (p : Place) (f : ℕ → Place) (v : ℕ) → may_withdraw p doing ≤ 0 → ((left : ℕ) → may_withdraw (f left) doing ≤ 0)
      → Quiet (zero_or p f v, Nothing)
  zero_quiet p f zero a b = omega arith
  zero_quiet p f (suc left) a b = let none = b left in omega arith

  test_quiet : (b : Bool) (p q : Place) → may_withdraw p doing ≤ 0 → may_withdraw q doing ≤ 0 → may_withdraw (if b then p else q) doing ≤ 0
  test_quiet true p q x y = x
  test_quiet false p q x y = y

  release_leads : (i t : ℕ) (hand : List WaitId) (lists : ℕ → List WaitId) (r : ReleaseCall) (row : ReleaseRow) (v : ℕ)
      → Quiet ((event_at i (record { place = Releasing r row; turn = t; hand = hand }) lists (Releasing r row)).leads v)
  release_leads i t hand lists r R1 v = omega arith
  release_leads i t hand lists r R2 v = zero_quiet on_counter.Rest (λ left. Releasing r R3) v (omega arith) (λ left. omega arith)
  release_leads i t hand lists r R3 v = omega arith
  release_leads i t hand lists r R4 v =
      zero_quiet (Releasing r R6) (λ left. by_first (lists r.counter) (Releasing r R6) (λ w. Releasing r R5)) v (omega arith)
      (λ left. place_quiet (lists r.counter) (Releasing r R6) (λ w. Releasing r R5) (omega arith) (λ w. omega arith))
  release_leads i t hand lists r R5 v =
      first_quiet (lists r.counter) (Releasing r R6, Nothing) (λ w. (Releasing r R6, Tells (Leave r.counter w i))) (omega arith) (λ w. omega arith)
  release_leads i t hand lists r R6 v =
      let quiet = place_quiet hand on_counter.Rest (λ w. if r.handoff then Releasing r R7 else Releasing r R10) (omega arith)
      (λ w. test_quiet r.handoff (Releasing r R7) (Releasing r R10) (omega arith) (omega arith)) in omega arith
  release_leads i t hand lists r R7 v = zero_quiet (Releasing r R10) (λ left. Releasing r (R8 left)) v (omega arith) (λ left. omega arith)
  release_leads i t hand lists r (R8 left) v = by (v == left + 1)
    where
      by : (b : Bool) → Quiet (if b then (Releasing r R9, Tells (Take r.counter (Rattle.step_table.specs.Event.waiter i hand))) else (Releasing r R7, Nothing))
      by true = omega arith
      by false = omega arith
  release_leads i t hand lists r R9 v = omega arith
  release_leads i t hand lists r R10 v = omega arith

  many_leads : (i t : ℕ) (hand : List WaitId) (lists : ℕ → List WaitId) (r : ManyCall) (row : ManyRow) (v : ℕ)
      → Quiet ((event_at i (record { place = ReleasingMany r row; turn = t; hand = hand }) lists (ReleasingMany r row)).leads v)
  many_leads i t hand lists r M1 v = omega arith
  many_leads i t hand lists r M2 v = zero_quiet on_counter.Rest (λ left. ReleasingMany r M3) v (omega arith) (λ left. omega arith)
  many_leads i t hand lists r M3 v = omega arith
  many_leads i t hand lists r M4 v =
      zero_quiet (ReleasingMany r M6) (λ left. by_first (lists r.counter) (ReleasingMany r M6) (λ w. ReleasingMany r M5)) v (omega arith)
      (λ left. place_quiet (lists r.counter) (ReleasingMany r M6) (λ w. ReleasingMany r M5) (omega arith) (λ w. omega arith))
  many_leads i t hand lists r M5 v =
      first_quiet (lists r.counter) (ReleasingMany r M6, Nothing)
      (λ w. (after_leave r (length hand) (length (lists r.counter)), Tells (Leave r.counter w i))) (omega arith)
      (λ w. (let quiet = test_quiet (nat_lt (length hand + 1) r.units && nat_lt 1 (length (lists r.counter))) (ReleasingMany r M5) (ReleasingMany r M6)
      (omega arith) (omega arith) in omega arith))
  many_leads i t hand lists r M6 v =
      let quiet = place_quiet hand on_counter.Rest (λ w. ReleasingMany r M7) (omega arith) (λ w. omega arith) in omega arith
  many_leads i t hand lists r M7 v =
      let quiet = test_quiet (nat_lt 1 (length hand)) (ReleasingMany r M7) on_counter.Rest (omega arith) (omega arith) in omega arith

  leads : (i t : ℕ) (hand : List WaitId) (lists : ℕ → List WaitId) (p : Place) (v : ℕ)
      → Leads p ((event_at i (record { place = p; turn = t; hand = hand }) lists p).leads v)
  leads i t hand lists on_counter.Rest v = omega arith
  leads i t hand lists (Acquiring a row) v = acquire_leads i t hand lists a row v
  leads i t hand lists (Releasing r row) v = release_leads i t hand lists r row v
  leads i t hand lists (ReleasingMany r row) v = many_leads i t hand lists r row v

abbrev pub withdrawn : Core → ℕ
withdrawn s = withdrawals s.semaphores.journal

abbrev may_at : Place → Standing → ℕ
may_at place doing = may_withdraw place doing + may_sleep doing

abbrev pub may : Core → ℕ → ℕ
may s k = may_at (s.semaphores.seats k).place (s.standing k)

abbrev Keeps : Core → Core → ℕ → ℕ → Type 0
Keeps s t i n = Counts withdrawn may s t i n

then_keeps : {s t u : Core} {i n k : ℕ} → Keeps s t i n → Keeps t u i k → Keeps s u i (n + k)
then_keeps a b = record {
  others = λ k ne. b.others k ne ∙ a.others k ne;
  here = let x = a.here in let y = b.here in omega arith;
}

-- another seat, and what it does
placed : (s : Core) (i n : ℕ) (place : Place) (doing : Standing)
    → may_at place doing ≤ may s i + n
    → Keeps s (stands (record s { semaphores = moved s.semaphores i place }) i doing) i n
placed s i n place doing few =
    let seat : SeatState = record (s.semaphores.seats i) { place = place } in record {
      others = λ k ne. ap₂ may_at (ap (λ (z : SeatState). z.place) (put_else s.semaphores.seats i seat k ne)) (put_else s.standing i doing k ne);
      here =
          let same = ap₂ may_at (ap (λ (z : SeatState). z.place) (put_here s.semaphores.seats i seat)) (put_here s.standing i doing) in
          omega arith;
    }

-- what it does alone
does : (s : Core) (i n : ℕ) (doing : Standing) → may_at (s.semaphores.seats i).place doing ≤ may s i + n → Keeps s (stands s i doing) i n
does s i n doing few = record {
  others = λ k ne. ap (may_at (s.semaphores.seats k).place) (put_else s.standing i doing k ne);
  here = let same = ap (may_at (s.semaphores.seats i).place) (put_here s.standing i doing) in omega arith;
}

-- nothing there
same_keeps : (s : Core) (i n : ℕ) → Keeps s s i n
same_keeps s i n = record { others = λ k ne. refl; here = omega arith }

module _ (s : Core) (i : ℕ) where
  turns : (doing : Standing) → may_leave doing ≡ 0 → may_sleep doing ≤ may_sleep (s.standing i) → Keeps s (stands s i doing) i 0
  turns doing off sleeps = does s i 0 doing (let less = less_off (s.standing i) (s.semaphores.seats i).place doing off in omega arith)

  stops : (doing : Standing) → may_leave doing + may_sleep doing ≡ 0 → Keeps s (stands s i doing) i 0
  stops doing off = turns doing (omega arith) (omega arith)

  -- a release follows, or a rest
  releases_keep : (m : CoreLayout) (g n : ℕ) → Keeps s (releases m s i g n) i 0
  releases_keep m g zero = stops Rest refl
  releases_keep m g (suc more) =
      placed s i 0 (Releasing (record { counter = semaphore m g; handoff = false }) R1) (AtCounter (Releases g more)) (omega arith)

  late_keeps : (c skips : ℕ) (late : Late) → Keeps s (comes_late s i c skips late) i 0
  late_keeps c skips Kept = stops Rest refl
  late_keeps c skips GivenBack =
      placed s i 0 (Releasing (record { counter = c; handoff = false }) R1) (AtCounter (Closes (GivesBack skips))) (omega arith)

  given_up_keeps : (how : GivingUp) (before : Place) → Keeps s (ends_given_up s i how before) i 0
  given_up_keeps how (Acquiring a D4) = stops (Left how.skips) refl
  given_up_keeps how before = late_keeps _ how.skips how.late

  closes_keeps : (ending : Ending) (before : Place) → Keeps s (closes s i ending before) i 0
  closes_keeps NextCall before = stops Rest refl
  closes_keeps (MayGiveUp how) before = stops Rest refl
  closes_keeps (GaveUp how) before = given_up_keeps how before
  closes_keeps (GivesBack skips) before = stops (Left skips) refl

  looks_again_keeps : (g : ℕ) (ending : Ending) (before : Place) → Keeps s (looks_again s i g ending before) i 0
  looks_again_keeps g (GaveUp how) (Acquiring a D4) = stops (Left how.skips) refl
  looks_again_keeps g (GaveUp how) (Acquiring a row) = stops (AtGroup g (V3 (GaveUp how))) refl
  looks_again_keeps g (GaveUp how) on_counter.Rest = stops (AtGroup g (V3 (GaveUp how))) refl
  looks_again_keeps g (GaveUp how) (Releasing r row) = stops (AtGroup g (V3 (GaveUp how))) refl
  looks_again_keeps g (GaveUp how) (ReleasingMany r row) = stops (AtGroup g (V3 (GaveUp how))) refl
  looks_again_keeps g NextCall before = stops (AtGroup g (V3 NextCall)) refl
  looks_again_keeps g (MayGiveUp how) before = stops (AtGroup g (V3 (MayGiveUp how))) refl
  looks_again_keeps g (GivesBack skips) before = stops (AtGroup g (V3 (GivesBack skips))) refl

  goes_on_keeps : (m : CoreLayout) (after : After) (before : Place) → Keeps s (goes_on m s i after before) i 0
  goes_on_keeps m (Closes ending) before = closes_keeps ending before
  goes_on_keeps m (LooksAgain g ending) before = looks_again_keeps g ending before
  goes_on_keeps m (Releases g more) before = releases_keep m g more

  after_keeps : (m : CoreLayout) (after : After) (before place : Place) → Keeps s (after_counter m s i after before place) i 0
  after_keeps m after before on_counter.Rest = goes_on_keeps m after before
  after_keeps m (Closes (GaveUp how)) before (Acquiring a A3) = placed s i 0 on_counter.Rest (Left how.skips) (omega arith)
  after_keeps m (Closes (GaveUp how)) before (Acquiring a row) = same_keeps s i 0
  after_keeps m (LooksAgain g (GaveUp how)) before (Acquiring a (Parked turn D3)) = stops (AtGroup g (V4 how)) refl
  after_keeps m (LooksAgain g (GaveUp how)) before (Acquiring a row) = same_keeps s i 0
  after_keeps m after before (Acquiring a row) = same_keeps s i 0
  after_keeps m after before (Releasing r row) = same_keeps s i 0
  after_keeps m after before (ReleasingMany r row) = same_keeps s i 0

  -- what follows a row on a list
  late_list_keeps : (l skips : ℕ) (late : Late) → Keeps s (comes_late_on_list s i l skips late) i 0
  late_list_keeps l skips Kept = stops Rest refl
  late_list_keeps l skips GivenBack = let it = stops (AtList l (GivesBack skips)) refl in record { others = it.others; here = it.here }

  given_up_list_keeps : (l : ℕ) (how : GivingUp) (before : ListPlace) → Keeps s (ends_given_up_on_list s i l how before) i 0
  given_up_list_keeps l how (on_list.Waiting t E4) = stops (Left how.skips) refl
  given_up_list_keeps l how before = late_list_keeps l how.skips how.late

  closes_list_keeps : (l : ℕ) (ending : Ending) (before : ListPlace) → Keeps s (closes_on_list s i l ending before) i 0
  closes_list_keeps l NextCall before = stops Rest refl
  closes_list_keeps l (MayGiveUp how) before = stops Rest refl
  closes_list_keeps l (GaveUp how) before = given_up_list_keeps l how before
  closes_list_keeps l (GivesBack skips) before = stops (Left skips) refl

  after_list_keeps : (l : ℕ) (ending : Ending) (before place : ListPlace) → Keeps s (after_list s i l ending before place) i 0
  after_list_keeps l ending before on_list.Rest = closes_list_keeps l ending before
  after_list_keeps l ending before place = same_keeps s i 0

  -- and a row of a group
  module _ (m : CoreLayout) (g : ℕ) where
    abbrev KeepsAfter : GroupNext → Type 0
    KeepsAfter next = Keeps s (after_group m s i g next) i 0

    next_by : (b : Bool) (x y : GroupNext) → KeepsAfter x → KeepsAfter y → KeepsAfter (if b then x else y)
    next_by true x y first second = first
    next_by false x y first second = second

    -- who waited, or was about to, still may withdraw its wait as before
    waits : (ending : Ending) (next : Standing) → may_sleep (s.standing i) ≡ may_be_left ending → may_leave next ≡ 0
        → may_sleep next ≡ may_be_left ending → Keeps s (stands s i next) i 0
    waits ending next was off is = turns next off (omega arith)

    group_keeps : (row : GroupRow) (w : GroupWord) → s.standing i ≡ AtGroup g row → KeepsAfter (group_row row w).1
    group_keeps (G1 d) w at =
        let left : GroupWord = plus w d in
        next_by (int_lt left.counter (pos 0)) (group.Fails Negative) _ (stops (Failed Negative) refl)
        (next_by (not (left.waits == 0) && int_lt (pos 0) d && int_eq left.counter d) (group.Fails AddWithWait) _ (stops (Failed AddWithWait) refl)
        (next_by (int_lt (pos 0) left.counter || (left.waits == 0)) group.Ends (group.Goes (G2 left)) (stops Rest refl) (stops (AtGroup g (G2 left)) refl)))
    group_keeps (G2 seen) w at =
        next_by (same_word seen w) (group.Goes (G3 seen)) (group.Fails AddWithWait) (stops (AtGroup g (G3 seen)) refl)
        (stops (Failed AddWithWait) refl)
    group_keeps (G3 seen) w at = releases_keep m g seen.waits
    group_keeps (V1 ending) w at =
        next_by (int_eq w.counter (pos 0)) group.Ends (group.Goes (V2 ending w)) (stops Rest refl)
        (waits ending (AtGroup g (V2 ending w)) (ap may_sleep at) refl refl)
    group_keeps (V2 ending seen) w at =
        next_by (same_word seen w) (group.Acquires ending) (group.Goes (V1 ending))
        (placed s i 0 (Acquiring (record { counter = semaphore m g; lifo = false }) A1) (AtCounter (LooksAgain g ending))
        (let was = ap may_sleep at in omega arith))
        (waits ending (AtGroup g (V1 ending)) (ap may_sleep at) refl refl)
    group_keeps (V3 ending) w at = next_by (same_word w empty_word) group.Ends (group.Fails Reused) (stops Rest refl) (stops (Failed Reused) refl)
    group_keeps (V4 how) w at =
        next_by (int_eq w.counter (pos 0) || (w.waits == 0)) (group.SleepsOn how) (group.Goes (V5 how w))
        (placed s i 0 (staying (s.semaphores.seats i).place) (AtCounter (LooksAgain g (GaveUp how)))
        (let less = less_on (s.standing i) (s.semaphores.seats i).place (AtCounter (LooksAgain g (GaveUp how))) refl in omega arith))
        (stops (AtGroup g (V5 how w)) refl)
    group_keeps (V5 how seen) w at =
        next_by (same_word seen w) (group.Withdraws how) (group.Goes (V4 how)) (stops (AtCounter (LooksAgain g (GaveUp how))) refl)
        (stops (AtGroup g (V4 how)) refl)

  -- a row on a counter
  row_keeps : (m : CoreLayout) → Keeps s (counter_row m s i) i 0
  row_keeps m =
      let w : SemaWorld = s.semaphores in
      let next : Next = (event_of w i).leads (finds m.root w i) in
      let seat : SeatState = seat_after next.1 next.0 (w.seats i) in record {
        others = λ k ne. ap (λ (z : SeatState). may_at z.place (s.standing k)) (put_else w.seats i seat k ne);
        here =
            let same = ap (λ (z : SeatState). may_at z.place (s.standing i)) (put_here w.seats i seat) in
            let told = count_after withdrawals withdrawals_counts next.1 w.journal in
            let row = leads (s.standing i) i (w.seats i).turn (w.seats i).hand w.words.lists (w.seats i).place (finds m.root w i) in omega arith;
      }

-- who gives up might withdraw its wait before
leaves_keep : (s : Core) (i : ℕ) (after : After) → s.standing i ≡ AtCounter after → may_give_up s.semaphores i after ≡ true
    → Keeps s (gives_up s i after) i 0
leaves_keep s i after at gives =
    placed s i 0 (leaving (s.semaphores.seats i).place) (AtCounter (given_up_after after))
    (let less = by after (s.semaphores.seats i).place (s.semaphores.words.grants i) gives in
    let same = ap (may_at (s.semaphores.seats i).place) at in omega arith)
  where
    asleep : (before now : Standing) → may_leave before ≡ 1 → (place : Place) (grant : ℕ) → (is_asleep place && (grant == 0)) ≡ true
        → may_withdraw (leaving place) now ≤ may_withdraw place before
    asleep before now may (Acquiring a (Parked turn P)) grant e = omega arith
    asleep before now may (Acquiring a (Parked turn row)) grant e = absurd cc
    asleep before now may (Acquiring a row) grant e = absurd cc
    asleep before now may on_counter.Rest grant e = absurd cc
    asleep before now may (Releasing r row) grant e = absurd cc
    asleep before now may (ReleasingMany r row) grant e = absurd cc

    by : (after : After) (place : Place) (grant : ℕ) → gives_up_at place grant after ≡ true
        → may_withdraw (leaving place) (AtCounter (given_up_after after)) ≤ may_withdraw place (AtCounter after)
    by (Closes (MayGiveUp how)) place grant e =
        asleep (AtCounter (Closes (MayGiveUp how))) (AtCounter (Closes (GaveUp how))) refl place grant e
    by (LooksAgain g (MayGiveUp how)) place grant e =
        asleep (AtCounter (LooksAgain g (MayGiveUp how))) (AtCounter (LooksAgain g (GaveUp how))) refl place grant e
    by (Closes NextCall) place grant e = absurd cc
    by (Closes (GaveUp how)) place grant e = absurd cc
    by (Closes (GivesBack skips)) place grant e = absurd cc
    by (LooksAgain g NextCall) place grant e = absurd cc
    by (LooksAgain g (GaveUp how)) place grant e = absurd cc
    by (LooksAgain g (GivesBack skips)) place grant e = absurd cc
    by (Releases g more) place grant e = absurd cc

module _ (m : CoreLayout) (s : Core) (i : ℕ) where
  counter_keeps : (after : After) → s.standing i ≡ AtCounter after → (b : Bool) → may_give_up s.semaphores i after ≡ b
      → Keeps s (if b then gives_up s i after else on_counter_row m s i after) i 0
  counter_keeps after at true gives = leaves_keep s i after at gives
  counter_keeps after at false stays =
      let t : Core = counter_row m s i in
      then_keeps (row_keeps s i m) (after_keeps t i m after (s.semaphores.seats i).place (t.semaphores.seats i).place)

  list_keeps : (l : ℕ) (ending : Ending) (b : Bool) → Keeps s (if b then gives_up_on_list s i l ending else on_list_row s i l ending) i 0
  list_keeps l ending true = let it = stops s i (AtList l (given_up ending)) refl in record { others = it.others; here = it.here }
  list_keeps l ending false =
      let t : Core = list_row s i l in
      let it = after_list_keeps t i l ending ((s.lists l).seats i).place ((t.lists l).seats i).place in record { others = it.others; here = it.here }

  row_withdraws : (doing : Standing) → s.standing i ≡ doing → Keeps s (row_of_standing m s i doing) i 0
  row_withdraws Rest at = same_keeps s i 0
  row_withdraws (AtCounter after) at = counter_keeps after at (may_give_up s.semaphores i after) refl
  row_withdraws (AtList l ending) at = list_keeps l ending (may_give_up_on_list (s.lists l) i ending)
  row_withdraws (AtGroup g row) at =
      let next : GroupWord × GroupNext = group_row row (s.groups g) in
      let it = group_keeps (record s { groups = put s.groups g next.0 }) i m g row (s.groups g) at in record { others = it.others; here = it.here }
  row_withdraws (Left skips) at = same_keeps s i 0
  row_withdraws (Failed misuse) at = same_keeps s i 0

call_withdraws : (s : Core) (i : ℕ) (call : Call) → Keeps s (calls s i call) i 1
call_withdraws s i call = by call
  where
    begins : (place : Place) (after : After) → Keeps s (at_counter s i place after) i 1
    begins place after = placed s i 1 place (AtCounter after) (let most = withdraw_most (AtCounter after) place in omega arith)

    does_now : (doing : Standing) → may_sleep doing ≡ 0 → Keeps s (stands s i doing) i 1
    does_now doing awake = does s i 1 doing (let most = withdraw_most doing (s.semaphores.seats i).place in omega arith)

    waits_now : (g : ℕ) (ending : Ending) → Keeps s (stands s i (AtGroup g (V1 ending))) i 1
    waits_now g ending =
        does s i 1 (AtGroup g (V1 ending))
        (let less = less_off (s.standing i) (s.semaphores.seats i).place (AtGroup g (V1 ending)) refl in
        let most = left_most ending in omega arith)

    by : (call : Call) → Keeps s (calls s i call) i 1
    by (Acquire c lifo) = begins (Acquiring (record { counter = c; lifo = lifo }) A1) (Closes NextCall)
    by (AcquireOrLeave c lifo how) = begins (Acquiring (record { counter = c; lifo = lifo }) A1) (Closes (MayGiveUp how))
    by (Release c handoff) = begins (Releasing (record { counter = c; handoff = handoff }) R1) (Closes NextCall)
    by (ReleaseMany c n) = begins (ReleasingMany (record { counter = c; units = n }) M1) (Closes NextCall)
    by (Add l) = let it = does_now (AtList l NextCall) refl in record { others = it.others; here = it.here }
    by (Wait l) = let it = does_now (AtList l NextCall) refl in record { others = it.others; here = it.here }
    by (WaitOrLeave l how) = let it = does_now (AtList l (MayGiveUp how)) refl in record { others = it.others; here = it.here }
    by (One l) = let it = does_now (AtList l NextCall) refl in record { others = it.others; here = it.here }
    by (NotifyAll l) = let it = does_now (AtList l NextCall) refl in record { others = it.others; here = it.here }
    by (GroupAdd g d) = does_now (AtGroup g (G1 d)) refl
    by (GroupWait g) = waits_now g NextCall
    by (GroupWaitOrLeave g skips) = waits_now g (MayGiveUp (record { late = Kept; skips = skips }))

-- a changed table leads no other seat to its withdrawal
changed_same : (v : Variant) (a : AcquireCall) (from next : AcquireRow) (doing : Standing)
    → may_withdraw (Acquiring a (changed_row v from next)) doing ≡ may_withdraw (Acquiring a next) doing
changed_same NoLook a A4 A5 doing = refl
changed_same LateCount a A3 A4 doing = refl
changed_same LateCount a A5 A7 doing = refl
changed_same LateCount a A4 A5 doing = refl
changed_same LateCount a (A6 left) A8 doing = refl
changed_same v a from next doing = refl

changed_place_same : (v : Variant) (from next : Place) (doing : Standing) → may_withdraw (changed_place v from next) doing ≡ may_withdraw next doing
changed_place_same v (Acquiring a from) (Acquiring b next) doing = changed_same v b from next doing
changed_place_same v from next doing = refl

changed_withdraws : (v : Variant) (s t : Core) (i : ℕ) (doing : Standing) → Keeps t (changed v s t i doing) i 0
changed_withdraws v s t i (AtCounter after) =
    let place : Place = changed_place v (s.semaphores.seats i).place (t.semaphores.seats i).place in
    let seat : SeatState = record (t.semaphores.seats i) { place = place } in record {
      others = λ k ne. ap (λ (z : SeatState). may_at z.place (t.standing k)) (put_else t.semaphores.seats i seat k ne);
      here =
          let at = ap (λ (z : SeatState). may_at z.place (t.standing i)) (put_here t.semaphores.seats i seat) in
          let same = changed_place_same v (s.semaphores.seats i).place (t.semaphores.seats i).place (t.standing i) in omega arith;
    }
changed_withdraws v s t i doing = let it = same_keeps t i 0 in record { others = it.others; here = it.here }

pub withdraws_once : IsOnce withdrawn may
withdraws_once = record {
  row = λ m s i. row_withdraws m s i (s.standing i) refl;
  call = call_withdraws;
  rests = λ s i. stops s i Rest refl;
  leads = λ v s t i. changed_withdraws v s t i (s.standing i);
}
