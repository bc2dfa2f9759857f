-- The law of the rows: the invariant holds at every start, every step keeps it, and it gives what is promised of a world.
use Rattle.std.proofs.Common.{◌≡◌, ℕ, zero, suc, ◌+◌, ◌<◌, ◌≤◌, ◌≢◌, ◌⊎◌, List, [], ◌∷◌, ◌++◌, length, refl, ap}
use Rattle.std.proofs.Common.{inl, inr, subst, arith}
use native.Mathlib.Decide.{ℕ_discrete}
use Rattle.waiters.specs.declared.wait.WaitId.{WaitId}
use Rattle.step_table.specs.declared.entry.Entry.{Entry}
use Rattle.step_table.specs.declared.place.Acquire.{Acquire}
use Rattle.step_table.specs.declared.place.AcquireRow.TheVariants.{A5, A6, A7, A8, Parked}
use Rattle.step_table.specs.declared.place.ParkedRow.TheVariants.{P, D3}
use Rattle.step_table.specs.declared.place.ReleaseRow.TheVariants.{R6}
use Rattle.step_table.specs.declared.place.ManyRow.TheVariants.{M6}
use Rattle.step_table.specs.declared.place.Place.{Place}
use Rattle.step_table.specs.declared.place.ParkedRow.{ParkedRow}
use Rattle.step_table.specs.declared.place.Place.TheVariants.{Acquiring, Releasing, ReleasingMany}
use Rattle.step_table.specs.World.{Layout, SemaWorld, first_world}
use Rattle.step_table.specs.Steps.{IsReached}
use Rattle.step_table.proofs.Turns.{steps_keep, sole}
use Rattle.step_table.specs.Steps as steps
use Rattle.step_table.specs.Journal.{HasItsUnit}
use Rattle.step_table.specs.Counting.{on, same, total, wait, times, granted, counter_at}
use Rattle.step_law_semaphores.specs.Lawful.{holds, raises, flies, IsParked, IsCommitted}
use Rattle.step_law_semaphores.specs.Lawful.{WaitersCounted, NoLostWakeUp, ParkedOnce, EachIsParked, IsReleasing, CallsWithin, IsLawfulWorld, WithdrawsQueued}
use Rattle.step_law_semaphores.specs.Invariant.{hands, awaits, helps_at, helps, commits, HandFits, IsInvariant, Finds}
use Rattle.step_law_semaphores.specs.Law.{TheLaw}
use Rattle.step_table.proofs.Sums.{on_here, on_zero, on_le, nothing, single, total_has, total_le, total_same, total_rest}
use Rattle.step_table.proofs.Withdrawing.{wait_times}
use Rattle.step_law_semaphores.proofs.Lines.{Step}
use Rattle.step_law_semaphores.proofs.Cases.{step_of}
use Rattle.step_law_semaphores.proofs.Locks.{locks_kept}
use Rattle.step_law_semaphores.proofs.Raising.{raised_kept}
use Rattle.step_law_semaphores.proofs.Placing.{same_here, awaits_else, placed_kept, seats_kept}
use Rattle.step_law_semaphores.proofs.Parking.{one_parking, in_a_list, in_a_hand, in_hands}
use Rattle.step_law_semaphores.proofs.Flying.{units_kept}
use Rattle.step_law_semaphores.proofs.Finding.{finds_kept}
use Rattle.step_law_semaphores.proofs.Telling.{replays_kept, follows_kept, once_kept, new_kept}
use Rattle.step_law_semaphores.proofs.Stories.{stories_kept}
use Rattle.step_law_semaphores.proofs.Counting.{sleepers_kept, turns_kept}
use Rattle.step_law_semaphores.proofs.Bounding.{bounded}
use Rattle.step_law_semaphores.proofs.Ending.{at_rest}

no_entry : (before after : List Entry) (e : Entry) → [] ≡ before ++ e ∷ after → ⊥
no_entry [] after e q = cc
no_entry (x ∷ before) after e q = cc

-- nothing has happened at the start
pub at_first : (m : Layout) → IsInvariant m (first_world m.starts)
at_first m =
    let seats = nothing m.seats (λ k. 0) (λ k. refl) in
    let lists = nothing m.counters (λ c. 0) (λ c. refl) in
    record {
      locks = λ r. (omega arith, omega arith);
      waiters = λ r. let none = nothing m.counters (λ c. on (m.root c) r 0) (λ c. on_zero (m.root c) r) in omega arith;
      units = λ c some. absurd (omega arith);
      placed = λ c w. omega arith;
      sleepers = omega arith;
      turns = omega arith;
      seats = λ k. record { within = tt; fits = refl; granted = refl };
      finds = λ k h. tt;
      replays = refl;
      follows = λ before after e q. absurd (no_entry before after e q);
      once = λ w. (omega arith, omega arith);
      turns_new = λ k turn later. refl;
      stories = λ k h. tt;
    }

-- a step, by the cases that the laws go by, keeps every part
kept_by : (m : Layout) (s t : SemaWorld) (i : ℕ) → i < m.seats → IsInvariant m s → Step m s i t → IsInvariant m t
kept_by m s t i in_range inv step = record {
  locks = locks_kept m s t i in_range inv.locks step;
  waiters = raised_kept m s t i in_range inv.seats inv.waiters step;
  units = units_kept m s t i in_range inv.locks inv.seats inv.waiters inv.placed inv.units step;
  placed = placed_kept m s t i in_range inv.seats inv.placed step;
  sleepers = sleepers_kept in_range inv.placed inv.seats inv.sleepers step;
  turns = turns_kept in_range inv.seats inv.turns step;
  seats = seats_kept m s t i in_range inv.placed inv.finds inv.seats step;
  finds = finds_kept m s t i in_range inv.locks inv.placed inv.finds step;
  replays = replays_kept inv.replays step;
  follows = follows_kept in_range inv.replays inv.seats inv.stories inv.follows step;
  once = once_kept inv.seats inv.turns_new inv.once step;
  turns_new = new_kept inv.turns_new step;
  stories = stories_kept in_range inv.placed inv.seats inv.stories step;
}

pub kept : (m : Layout) (s t : SemaWorld) (i : ℕ) → i < m.seats → IsInvariant m s → steps.Step m s i t → IsInvariant m t
kept m s t i in_range inv step = kept_by m s t i in_range inv (step_of m s t i (inv.seats i) (inv.finds i in_range) step)

pub raises_held : (root : ℕ → ℕ) (r : ℕ) (p : Place) → raises root r p ≤ holds root r p
raises_held root r (Acquiring a A5) = omega arith
raises_held root r (Acquiring a (A6 left)) = omega arith
raises_held root r (Acquiring a A7) = omega arith
raises_held root r (Acquiring a A8) = omega arith
raises_held root r _ = omega arith

helps_flies : (c : ℕ) (p : Place) (hand : List WaitId) (grant : ℕ) → HandFits p (length hand)
    → helps_at c p hand grant ≤ flies c p (length hand) grant
helps_flies c (Acquiring a (Parked turn row)) hand zero fits = omega arith
helps_flies c (Acquiring a (Parked turn row)) hand (suc zero) fits = omega arith
helps_flies c (Acquiring a (Parked turn row)) hand (suc (suc g)) fits = omega arith
helps_flies c (Releasing r R6) (w ∷ hand) grant fits = omega arith
helps_flies c (Releasing r R6) [] grant fits = omega arith
helps_flies c (ReleasingMany r M6) hand grant fits = on_le r.counter c (length hand) r.units fits
helps_flies c _ hand grant fits = omega arith

waits_here : (c k turn grant : ℕ) (a : Acquire) (row : ParkedRow) → a.counter ≡ c
    → awaits c (wait k turn) k (Acquiring a (Parked turn row)) grant + granted grant ≡ 1
waits_here c k turn zero a row here =
    let w = wait k turn in let on_it = on_here c (same w w) in let itself = same_here w in rw here (omega arith)
waits_here c k turn (suc g) a row here = omega arith

some_hand : (w : WaitId) (hand : List WaitId) → 0 < times w hand → 0 < length hand
some_hand w [] some = some
some_hand w (x ∷ hand) some = omega arith

of_release : (p : Place) (n : ℕ) → HandFits p n → 0 < n → IsReleasing p (counter_at p)
of_release (Releasing r row) n fits some = refl
of_release (ReleasingMany r row) n fits some = refl
of_release _ n fits some = absurd (omega arith)

module _ (m : Layout) (s : SemaWorld) (inv : IsInvariant m s) where
  waiters_counted : WaitersCounted m s
  waiters_counted r =
      let raising : ℕ → ℕ = λ k. raises m.root r (s.seats k).place in
      let holding : ℕ → ℕ = λ k. holds m.root r (s.seats k).place in
      let held : (k : ℕ) → raising k ≤ holding k = λ k. raises_held m.root r (s.seats k).place in
      let lock = inv.locks r in
      let word = inv.waiters r in (
        (λ free. let few = total_le m.seats raising holding (λ k h. held k) in omega arith),
        (λ k h one. let others = total_rest m.seats raising holding k h held in let its_own = total_has m.seats raising k h in omega arith),
      )

  few_units : NoLostWakeUp m s
  few_units c some =
      let all_fly = total_le m.seats (λ k. helps c (s.seats k) (s.words.grants k))
      (λ k. flies c (s.seats k).place (length (s.seats k).hand) (s.words.grants k))
      (λ k h. helps_flies c (s.seats k).place (s.seats k).hand (s.words.grants k) (inv.seats k).fits) in
      let few = inv.units c (by some) in omega arith
    where
      by : (0 < length (s.words.lists c)) ⊎ ((k : ℕ) × (k < m.seats) × IsCommitted s k c)
          → 0 < length (s.words.lists c) + total m.seats (λ k. commits c (s.seats k).place)
      by (inl queued) = omega arith
      by (inr k) =
          let committed = k.2 in
          let its_own = total_has m.seats (λ k. commits c (s.seats k).place) k.0 k.1 in
          let at_place = ap (commits c) committed.2 in
          let at_counter = ap (λ d. on d c 1) committed.1 in
          let one = on_here c 1 in omega arith

  each_is_parked : EachIsParked m s
  each_is_parked = (
    (λ c w some. let v = in_a_list m s inv.placed c w some in (v.5, (v.0, v.1, v.2, v.3))),
    (λ k w h some.
        let v = in_a_hand m s inv.placed k w h some in
        let its = of_release (s.seats k).place (length (s.seats k).hand) (inv.seats k).fits (some_hand w (s.seats k).hand some) in
        (v.5, counter_at (s.seats k).place, its, (v.0, v.1, v.2, v.3))),
  )

  parked_once : ParkedOnce m s
  parked_once k c turn h parked = (
    (let w = wait k turn in
        let in_the_hands = total_same m.seats (λ i. times w (s.seats i).hand) (λ i. hands c w (s.seats i)) (in_hands m s inv.placed k c turn parked) in
        let alone = single m.seats (λ i. awaits c w i (s.seats i).place (s.words.grants i)) k h
        (λ i ne. awaits_else c w i (s.seats i).place (s.words.grants i) ne) in
        let at_place = ap (λ p. awaits c w k p (s.words.grants k)) parked.3 in
        let awaited = waits_here c k turn (s.words.grants k) parked.0 parked.2 parked.1 in
        let placed = inv.placed c w in omega arith),
    (λ d ne. by d ne (ℕ_discrete (times (wait k turn) (s.words.lists d)) 0)),
  )
    where
      by : (d : ℕ) → d ≢ c → Dec (times (wait k turn) (s.words.lists d) ≡ 0) → times (wait k turn) (s.words.lists d) ≡ 0
      by d ne (yes none) = none
      by d ne (no some) =
          let v = in_a_list m s inv.placed d (wait k turn) (omega arith) in
          absurd (ne (one_parking s k k d c turn turn refl (v.0, v.1, v.2, v.3) parked).0)

  -- a seat that is about to take its wait out has it queued
  withdraws_queued : WithdrawsQueued m s
  withdraws_queued k c turn h at =
      let w = wait k turn in
      let stands = wait_times w (s.words.lists at.0.counter) (subst (Finds k s.words.lists) at.2 (inv.finds k h)) in
      let queued = subst (λ d. 0 < times w (s.words.lists d)) at.1 stands in
      let sole = (parked_once k c turn h (at.0, at.1, D3, at.2)).0 in omega arith

  -- a grant of 2 has its unit
  has_its_unit : (k c turn : ℕ) → k < m.seats → IsParked s k c turn → s.words.grants k ≡ 2 → HasItsUnit c (wait k turn) s.journal
  has_its_unit k c turn h parked two =
      let story = inv.stories k h in subst (λ c. HasItsUnit c (wait k turn) s.journal) parked.1 (rw (parked.3, two) at story)

  calls_within : CallsWithin m s
  calls_within k = (inv.seats k).within

  pub promised : IsLawfulWorld m s
  promised = record {
    journal = (inv.replays, (inv.follows, (λ w. let once = inv.once w in (once.1, omega arith))));
    locks = λ r. (inv.locks r).0;
    waiters = waiters_counted;
    units = few_units;
    once = parked_once;
    parked = each_is_parked;
    withdraws = withdraws_queued;
    grants = ((λ k. (inv.seats k).granted), has_its_unit);
    bounded = bounded m s inv;
    within = calls_within;
  }

pub reached : (m : Layout) (s : SemaWorld) → IsReached m s → IsInvariant m s
reached m s led = steps_keep (steps.Step m) m.seats (IsInvariant m) (kept m) (first_world m.starts) s led (at_first m)

pub the_law : TheLaw
the_law = record {
  starts = at_first;
  kept = kept;
  lawful = promised;
  invariant = reached;
  reached = λ m s r. promised m s (reached m s r);
  ends = at_rest;
  sole = λ m. sole (steps.rules m.root);
}
