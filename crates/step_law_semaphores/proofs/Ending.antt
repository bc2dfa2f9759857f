-- Where no seat can run a row, no lock is held, and each seat is at rest or its wait is queued on a counter whose number is 0.
use Rattle.std.proofs.Common.{◌≡◌, ℕ, ◌<◌, ◌≢◌, ◌⊎◌, ◌==◌, IsTrue, List, [], ◌∷◌, length, refl, sym, ap, ap₂, ◌∙◌}
use Rattle.std.proofs.Common.{subst, inl, inr, arith}
use native.Mathlib.Decide.{ℕ_discrete}
use Rattle.std.proofs.lemmas.Bool.{lt-ltb}
use Rattle.waiters.specs.declared.wait.WaitId.{WaitId}
use Rattle.step_table.specs.declared.place.Acquire.{Acquire}
use Rattle.step_table.specs.declared.place.AcquireRow.TheVariants.{A3, Parked}
use Rattle.step_table.specs.declared.place.ParkedRow.TheVariants.{P, D2}
use Rattle.step_table.specs.declared.place.ReleaseRow.TheVariants.{R3, R9, R10}
use Rattle.step_table.specs.declared.place.ManyRow.TheVariants.{M3}
use Rattle.step_table.specs.declared.place.Place.{Place}
use Rattle.step_table.specs.declared.place.ParkedRow.{ParkedRow}
use Rattle.step_table.specs.declared.place.Place.TheVariants.{Rest, Acquiring, Releasing, ReleasingMany}
use Rattle.step_table.specs.World.{Layout, SemaWorld, found}
use Rattle.step_table.specs.Table.{table}
use Rattle.step_table.specs.Steps.{IsEnd}
use Rattle.step_table.specs.Counting.{same, total, wait, times, counter_at}
use Rattle.step_law_semaphores.specs.Lawful.{holds, Sleeps}
use Rattle.step_law_semaphores.specs.Invariant.{hands_at, hands, awaits, helps_at, helps, HandFits, IsInvariant}
use Rattle.step_law_semaphores.specs.Law.{IsAtRest}
use Rattle.step_table.proofs.Sums.{on_here, total_same, nothing, single}
use Rattle.step_law_semaphores.proofs.Lines.{standing}
use Rattle.step_law_semaphores.proofs.Placing.{same_here, awaits_else}

empty : {A : Type 0} (l : List A) → length l ≡ 0 → l ≡ []
empty [] e = refl
empty (x ∷ l) e = absurd (omega arith)

some_queued : (w : WaitId) (l : List WaitId) → 0 < times w l → 0 < length l
some_queued w [] some = absurd (omega arith)
some_queued w (x ∷ l) some = omega arith

module _ (m : Layout) (s : SemaWorld) (inv : IsInvariant m s) (ended : IsEnd m s) where
  -- a seat whose event can be would run
  runs : (k : ℕ) → k < m.seats → (p : Place) (hand : List WaitId) → (s.seats k).place ≡ p → (s.seats k).hand ≡ hand
      → IsTrue (let e = table k (standing p (s.seats k).turn hand) s.words.lists in e.can (found m.root s.words e.word)) → ⊥
  runs k h p hand at in_hand can =
      ended k h (subst (λ z. IsTrue (let e = table k z s.words.lists in e.can (found m.root s.words e.word)))
      (λ j. record { place = sym at j; turn = (s.seats k).turn; hand = sym in_hand j }) can)

  -- the seat k is at rest, or asleep
  abbrev Quiet : ℕ → Type 0
  Quiet k = ((s.seats k).place ≡ Rest) ⊎ ((a : Acquire) × (turn : ℕ) × ((s.seats k).place ≡ Acquiring a (Parked turn P)) × (s.words.grants k ≡ 0))

  -- or in front of a lock that is held
  abbrev Barred : ℕ → Type 0
  Barred k = (r : ℕ) × (s.words.locks r ≢ 0) × ((q : ℕ) → holds m.root q (s.seats k).place ≡ 0)

  at_lock : (k r : ℕ) → ((q : ℕ) → holds m.root q (s.seats k).place ≡ 0) → (IsTrue (s.words.locks r == 0) → ⊥) → Barred k
  at_lock k r none never = (r, (λ free. never (ap (λ n. n == 0) free)), none)

  rests : (k : ℕ) → k < m.seats → (p : Place) (hand : List WaitId) → (s.seats k).place ≡ p → (s.seats k).hand ≡ hand
      → HandFits p (length hand) → Quiet k ⊎ Barred k
  rests k h Rest hand at in_hand fits = inl (inl at)
  rests k h (Acquiring a A3) hand at in_hand fits =
      inr (at_lock k (m.root a.counter) (λ q. ap (holds m.root q) at) (runs k h (Acquiring a A3) hand at in_hand))
  rests k h (Releasing r R3) hand at in_hand fits =
      inr (at_lock k (m.root r.counter) (λ q. ap (holds m.root q) at) (runs k h (Releasing r R3) hand at in_hand))
  rests k h (ReleasingMany r M3) hand at in_hand fits =
      inr (at_lock k (m.root r.counter) (λ q. ap (holds m.root q) at) (runs k h (ReleasingMany r M3) hand at in_hand))
  rests k h (Acquiring a (Parked t P)) hand at in_hand fits = by (ℕ_discrete (s.words.grants k) 0)
    where
      by : Dec (s.words.grants k ≡ 0) → Quiet k ⊎ Barred k
      by (yes e) = inl (inr (a, t, at, e))
      by (no ne) = absurd (runs k h (Acquiring a (Parked t P)) hand at in_hand (lt-ltb 0 (s.words.grants k) (omega arith)))
  rests k h (Acquiring a (Parked t D2)) hand at in_hand fits =
      inr (at_lock k (m.root a.counter) (λ q. ap (holds m.root q) at) (runs k h (Acquiring a (Parked t D2)) hand at in_hand))
  rests k h (Releasing r R9) [] at in_hand fits = absurd (omega arith)
  rests k h (Releasing r R10) [] at in_hand fits = absurd (omega arith)
  rests k h (Releasing r R9) (w ∷ hand) at in_hand fits = absurd (runs k h (Releasing r R9) (w ∷ hand) at in_hand refl)
  rests k h (Releasing r R10) (w ∷ hand) at in_hand fits = absurd (runs k h (Releasing r R10) (w ∷ hand) at in_hand refl)
  rests k h _ hand at in_hand fits = absurd (runs k h _ hand at in_hand refl)

  resting : (k : ℕ) → k < m.seats → Quiet k ⊎ Barred k
  resting k h = rests k h (s.seats k).place (s.seats k).hand refl refl (inv.seats k).fits

  none_of : (f : ℕ → ℕ) → ((k : ℕ) → k < m.seats → f k ≡ 0) → total m.seats f ≡ 0
  none_of f none = total_same m.seats f (λ k. 0) none ∙ nothing m.seats (λ k. 0) (λ k. refl)

  unheld : (r k : ℕ) → k < m.seats → holds m.root r (s.seats k).place ≡ 0
  unheld r k h = by (resting k h)
    where
      by : Quiet k ⊎ Barred k → holds m.root r (s.seats k).place ≡ 0
      by (inl (inl at)) = ap (holds m.root r) at
      by (inl (inr at)) = ap (holds m.root r) at.2
      by (inr at) = at.2 r

  free : (r : ℕ) → s.words.locks r ≡ 0
  free r = (inv.locks r).0 ∙ none_of (λ k. holds m.root r (s.seats k).place) (unheld r)

  quiet : (k : ℕ) → k < m.seats → Quiet k
  quiet k h = by (resting k h)
    where
      by : Quiet k ⊎ Barred k → Quiet k
      by (inl at) = at
      by (inr at) = absurd (at.1 (free at.0))

  no_hands : (c : ℕ) (w : WaitId) (k : ℕ) → k < m.seats → hands c w (s.seats k) ≡ 0
  no_hands c w k h = by (quiet k h)
    where
      none : length (s.seats k).hand ≡ 0 → hands c w (s.seats k) ≡ 0
      none e = ap (hands_at c w (counter_at (s.seats k).place)) (empty (s.seats k).hand e)

      by : Quiet k → hands c w (s.seats k) ≡ 0
      by (inl at) = none (rw at at (inv.seats k).fits)
      by (inr at) = none (rw at.2 at (inv.seats k).fits)

  no_help : (c k : ℕ) → k < m.seats → helps c (s.seats k) (s.words.grants k) ≡ 0
  no_help c k h = by (quiet k h)
    where
      by : Quiet k → helps c (s.seats k) (s.words.grants k) ≡ 0
      by (inl at) = ap (λ p. helps_at c p (s.seats k).hand (s.words.grants k)) at
      by (inr at) = ap₂ (λ p g. helps_at c p (s.seats k).hand g) at.2 at.3

  -- a sleeper's wait stands in the list of its counter, whose number is 0
  queued_at : (k turn : ℕ) (a : Acquire) → k < m.seats → (s.seats k).place ≡ Acquiring a (Parked turn P) → s.words.grants k ≡ 0
      → (times (wait k turn) (s.words.lists a.counter) ≡ 1) × (s.words.numbers a.counter ≡ 0)
  queued_at k turn a h at ungranted =
      let c = a.counter in
      let w = wait k turn in
      let in_no_hand = none_of (λ i. hands c w (s.seats i)) (no_hands c w) in
      let without_help = none_of (λ i. helps c (s.seats i) (s.words.grants i)) (no_help c) in
      let alone = single m.seats (λ i. awaits c w i (s.seats i).place (s.words.grants i)) k h
      (λ i ne. awaits_else c w i (s.seats i).place (s.words.grants i) ne) in
      let awaited = ap₂ (awaits c w k) at ungranted in
      let on_its_counter = on_here c (same w w) in
      let itself = same_here w in
      let placed = inv.placed c w in
      let queued : times w (s.words.lists c) ≡ 1 = omega arith in
      let some = some_queued w (s.words.lists c) (omega arith) in
      let few = inv.units c (omega arith) in (queued, omega arith)

  pub at_rest : IsAtRest m s
  at_rest = (free, (λ k h. by k h (quiet k h)))
    where
      by : (k : ℕ) → k < m.seats → Quiet k
          → ((s.seats k).place ≡ Rest)
          ⊎ ((c turn : ℕ) × Sleeps s k c turn × (times (wait k turn) (s.words.lists c) ≡ 1) × (s.words.numbers c ≡ 0))
      by k h (inl at) = inl at
      by k h (inr at) = let v = queued_at k at.1 at.0 h at.2 at.3 in inr (at.0.counter, at.1, (at.0, refl, at.2), v.0, v.1)
