-- Whose a wait is: a wait that stands in a list or in a hand is that of one seat, parked on one counter.
use Rattle.std.proofs.Common.{◌≡◌, ℕ, ◌<◌, List, [], ◌∷◌, refl, sym, ap, ◌∙◌, arith}
use native.Mathlib.Decide.{ℕ_discrete}
use Rattle.waiters.specs.declared.wait.WaitId.{WaitId}
use Rattle.step_table.specs.declared.place.AcquireRow.TheVariants.{Parked}
use Rattle.step_table.specs.declared.place.ParkedRow.TheVariants.{P}
use Rattle.step_table.specs.declared.place.ParkedRow.{ParkedRow}
use Rattle.step_table.specs.declared.place.Place.TheVariants.{Acquiring}
use Rattle.step_table.specs.World.{Layout, SemaWorld}
use Rattle.step_table.specs.Counting.{on, wait, times, counter_at}
use Rattle.step_law_semaphores.specs.Lawful.{IsParked}
use Rattle.step_law_semaphores.specs.Invariant.{hands_at, hands, WaitsPlaced}
use Rattle.step_table.proofs.Sums.{on_here, on_zero, total_has}
use Rattle.step_law_semaphores.proofs.Placing.{Waiter, waiter_of}

-- a seat is parked on one counter, and for one wait
pub one_parking : (s : SemaWorld) (k i c d t u : ℕ) → k ≡ i → IsParked s k c t → IsParked s i d u → (c ≡ d) × (t ≡ u)
one_parking s k i c d t u one p q =
    let place : Acquiring p.0 (Parked t p.2) ≡ Acquiring q.0 (Parked u q.2) = sym p.3 ∙ ap (λ z. (s.seats z).place) one ∙ q.3 in
    let acquire : p.0 ≡ q.0 = cc in (sym p.1 ∙ ap (λ a. a.counter) acquire ∙ q.1, cc)

-- in a hand of c a wait counts for c
in_own : (c : ℕ) (w : WaitId) (hand : List WaitId) → hands_at c w c hand ≡ times w hand
in_own c w [] = refl
in_own c w (x ∷ hand) = on_here c (times w (x ∷ hand))

in_none : (c d : ℕ) (w : WaitId) (hand : List WaitId) → times w hand ≡ 0 → hands_at c w d hand ≡ 0
in_none c d w [] none = refl
in_none c d w (x ∷ hand) none = ap (on d c) none ∙ on_zero d c

module _ (m : Layout) (s : SemaWorld) (placed : WaitsPlaced m s) where
  -- the counter that the seat k's call is on, and so each wait in its hand
  abbrev pub call_of : ℕ → ℕ
  call_of k = counter_at (s.seats k).place

  pub in_call : (k : ℕ) (w : WaitId) → hands (call_of k) w (s.seats k) ≡ times w (s.seats k).hand
  in_call k w = in_own (call_of k) w (s.seats k).hand

  -- the waiter of a wait in a list, and in a hand
  pub in_a_list : (c : ℕ) (w : WaitId) → 0 < times w (s.words.lists c) → Waiter m c w s
  in_a_list c w some = waiter_of m s c w placed (omega arith)

  pub in_a_hand : (k : ℕ) (w : WaitId) → k < m.seats → 0 < times w (s.seats k).hand → Waiter m (call_of k) w s
  in_a_hand k w h some =
      let its_own = total_has m.seats (λ i. hands (call_of k) w (s.seats i)) k h in
      let same = in_call k w in waiter_of m s (call_of k) w placed (omega arith)

  -- the wait of a seat that is parked on c is in a hand as often as in a hand of c
  pub in_hands : (k c turn : ℕ) → IsParked s k c turn → (i : ℕ) → i < m.seats
      → times (wait k turn) (s.seats i).hand ≡ hands c (wait k turn) (s.seats i)
  in_hands k c turn parked i h = by (ℕ_discrete (times w hand) 0)
    where
      w : WaitId
      w = wait k turn

      hand : List WaitId
      hand = (s.seats i).hand

      by : Dec (times w hand ≡ 0) → times w hand ≡ hands c w (s.seats i)
      by (yes none) = none ∙ sym (in_none c (call_of i) w hand none)
      by (no some) =
          let v = in_a_hand i w h (omega arith) in
          let here = one_parking s k k c (call_of i) turn turn refl parked (v.0, v.1, v.2, v.3) in rw here.0 (sym (in_call i w))
