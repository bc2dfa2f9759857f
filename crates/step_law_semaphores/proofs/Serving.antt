-- For whom units were taken: a seat comes by each unit that is taken for it, and while it is parked at most one is served to it.
use Rattle.std.proofs.Common.{◌≡◌, ℕ, zero, suc, ◌+◌, ◌<◌, ◌≤◌, List, [], ◌∷◌, refl, sym, ap, ◌∙◌, subst₂, arith}
use native.Mathlib.Decide.{ℕ_discrete}
use Rattle.waiters.specs.declared.wait.WaitId.{WaitId}
use Rattle.step_table.specs.declared.effect.Effect.{Effect}
use Rattle.step_table.specs.declared.place.Acquire.{Acquire}
use Rattle.step_table.specs.declared.place.AcquireRow.TheVariants.{Parked}
use Rattle.step_table.specs.declared.place.ParkedRow.TheVariants.{P}
use Rattle.step_table.specs.declared.place.ReleaseRow.TheVariants.{R9}
use Rattle.step_table.specs.declared.place.Place.{Place}
use Rattle.step_table.specs.declared.place.ParkedRow.{ParkedRow}
use Rattle.step_table.specs.declared.place.Place.TheVariants.{Acquiring, Releasing}
use Rattle.step_table.specs.World.{Layout, Words, SeatState, SemaWorld, put}
use Rattle.step_table.specs.Steps as steps
use Rattle.step_table.specs.Journal.{takes}
use Rattle.step_table.specs.Counting.{on, wait, times, granted}
use Rattle.step_law_semaphores.specs.Lawful.{IsParked, IsGrantOf}
use Rattle.step_law_semaphores.specs.Invariant.{IsInvariant}
use Rattle.step_table.proofs.Sums.{put_here, put_else, on_here, on_else, on_zero, on_most, total_le, total_some, owned, on_some}
use Rattle.step_law_semaphores.proofs.Lines.{Line, a2_won, a6_won, a11_won, p_one, p_two, r8_won, Post, r9, r10}
use Rattle.step_law_semaphores.proofs.Lines.{m7_last, m7_more, Step, own, post}
use Rattle.step_law_semaphores.proofs.Placing.{same_here, Waiter, waiter_of_post}
use Rattle.step_law_semaphores.proofs.Parking.{one_parking, in_a_hand}
use Rattle.step_law_semaphores.proofs.Telling.{entries, count_after}
use Rattle.step_law_semaphores.proofs.Stories.{takes_counts}
use Rattle.step_law_semaphores.proofs.Promises as law
use Rattle.step_law_semaphores.specs.Served.{carries, carried, served, gains, TakesCounted, ServedOnce}
use Rattle.step_law_semaphores.proofs.Reaching.{cases}

-- a seat takes its grant x
woken : (grants : ℕ → ℕ) (i k x : ℕ) → grants i ≡ x → on (grants k) 2 1 ≡ on (put grants i 0 k) 2 1 + on k i (on x 2 1)
woken grants i k x is = by (ℕ_discrete k i)
  where
    zero_grant : on 0 2 1 ≡ 0
    zero_grant = on_else 0 2 1 (λ e. absurd (omega arith))

    by : Dec (k ≡ i) → on (grants k) 2 1 ≡ on (put grants i 0 k) 2 1 + on k i (on x 2 1)
    by (yes e) =
        let before = ap (λ z. on (grants z) 2 1) e ∙ ap (λ n. on n 2 1) is in
        let after = ap (λ z. on (put grants i 0 z) 2 1) e ∙ ap (λ n. on n 2 1) (put_here grants i 0) in
        let here = ap (λ z. on z i (on x 2 1)) e ∙ on_here i (on x 2 1) in
        let none = zero_grant in omega arith
    by (no ne) = let same = ap (λ n. on n 2 1) (put_else grants i 0 k ne) in let none = on_else k i (on x 2 1) ne in omega arith

-- a seat without a grant is granted x
granted_now : (grants : ℕ → ℕ) (j k x : ℕ) → grants j ≡ 0 → on (put grants j x k) 2 1 ≡ on (grants k) 2 1 + on k j (on x 2 1)
granted_now grants j k x is = by (ℕ_discrete k j)
  where
    by : Dec (k ≡ j) → on (put grants j x k) 2 1 ≡ on (grants k) 2 1 + on k j (on x 2 1)
    by (yes e) =
        let before = ap (λ z. on (grants z) 2 1) e ∙ ap (λ n. on n 2 1) is ∙ on_else 0 2 1 (λ e. absurd (omega arith)) in
        let after = ap (λ z. on (put grants j x z) 2 1) e ∙ ap (λ n. on n 2 1) (put_here grants j x) in
        let here = ap (λ z. on z j (on x 2 1)) e ∙ on_here j (on x 2 1) in omega arith
    by (no ne) = let same = ap (λ n. on n 2 1) (put_else grants j x k ne) in let none = on_else k j (on x 2 1) ne in omega arith

-- a grant of 1 counts for nobody, and one of 2 once
one_is_none : (k i : ℕ) → on k i (on 1 2 1) ≡ 0
one_is_none k i = ap (on k i) (on_else 1 2 1 (λ e. absurd (omega arith))) ∙ on_zero k i

two_is_one : (k i : ℕ) → on k i (on 2 2 1) ≡ on k i 1
two_is_one k i = ap (on k i) (on_here 2 1)

-- a row that stores no grant: what it takes for k, and what was served, is what k comes by and what is served after it
units_line : {m : Layout} {i : ℕ} {g h : Words} {p q : SeatState} {e : Effect} → Line m i g p q h e → (k : ℕ)
    → takes k (entries e) + (on (g.grants k) 2 1 + carries k p.place p.hand)
    ≡ on (h.grants k) 2 1 + carries k q.place q.hand + on k i (gains p.place q.place)
units_line (a2_won _) k = omega arith
units_line (a6_won _) k = omega arith
units_line (a11_won _) k = omega arith
units_line {i = i} {g = g} (p_one one) k =
    let wakes = woken g.grants i k 1 one in let quiet = one_is_none k i in let none = on_zero k i in omega arith
units_line {i = i} {g = g} (p_two two) k = let wakes = woken g.grants i k 2 two in let loud = two_is_one k i in omega arith
units_line {i = i} (r8_won {w = w} _) k = let none = on_zero k i in omega arith
units_line {i = i} _ k = let none = on_zero k i in omega arith

-- a row that stores a grant: what it carried for k is what it grants
units_post : {p q : SeatState} {c x : ℕ} {w : WaitId} → Post p q c w x → (k i : ℕ)
    → (carries k p.place p.hand ≡ carries k q.place q.hand + on k w.seat (on x 2 1)) × (on k i (gains p.place q.place) ≡ 0)
units_post (r9 {w = w}) k i = (let loud = two_is_one k w.seat in omega arith, on_zero k i)
units_post (r10 {w = w}) k i = (let quiet = one_is_none k w.seat in omega arith, on_zero k i)
units_post (m7_last {w = w}) k i = (let quiet = one_is_none k w.seat in omega arith, on_zero k i)
units_post (m7_more {w = w}) k i = (let quiet = one_is_none k w.seat in omega arith, on_zero k i)

pub counted_by : {m : Layout} {s : SemaWorld} {i : ℕ} {t : SemaWorld} → i < m.seats → IsInvariant m s → Step m s i t → TakesCounted m i s t
counted_by {m = m} {s = s} {i = i} h inv (own {q = q} {e = e} line) k =
    let row = units_line line k in
    let all = owned (λ z seat grant. carries k seat.place seat.hand) m.seats s.seats s.words.grants s.words.grants i q h
    (λ z ne. refl) in
    let told = count_after (takes k) (takes_counts k) e s.journal in
    let now = ap (λ z. on k i (gains (s.seats i).place z.place)) (put_here s.seats i q) in omega arith
counted_by {m = m} {s = s} {i = i} h inv (post {c = c} {x = x} {w = w} {q = q} row) k =
    let v : Waiter m c w s = waiter_of_post m s i c x w h inv.placed row in
    let grant = granted_now s.words.grants w.seat k x v.4 in
    let units = units_post row k i in
    let handed = units.0 in
    let gained = units.1 in
    let all = owned (λ z seat grant. carries k seat.place seat.hand) m.seats s.seats s.words.grants s.words.grants i q h
    (λ z ne. refl) in
    let now = ap (λ z. on k i (gains (s.seats i).place z.place)) (put_here s.seats i q) in omega arith

pub counted : (m : Layout) (s t : SemaWorld) (i : ℕ) → i < m.seats → IsInvariant m s → steps.Step m s i t → TakesCounted m i s t
counted m s t i h inv step = counted_by h inv (cases h inv step)

-- what is carried is a wait of k in the hand, at most one in each
carrying : (k : ℕ) (p : Place) (hand : List WaitId) → 0 < carries k p hand → (w : WaitId) × (w.seat ≡ k) × (0 < times w hand)
carrying k (Releasing r R9) (w ∷ hand) some =
    let here = on_some k w.seat 1 some in (w, sym here.0, (let one = same_here w in omega arith))
carrying k (Releasing r R9) [] some = absurd (omega arith)
carrying k _ hand some = absurd (omega arith)

carries_most : (k : ℕ) (p : Place) (hand : List WaitId) → carries k p hand ≤ 1
carries_most k (Releasing r R9) (w ∷ hand) = on_most k w.seat 1
carries_most k (Releasing r R9) [] = omega arith
carries_most k _ hand = omega arith

-- a seat with a grant is parked
granted_parked : (p : Place) (g : ℕ) → IsGrantOf p g → 0 < g → (a : Acquire) × (t : ℕ) × (row : ParkedRow) × (p ≡ Acquiring a (Parked t row))
granted_parked (Acquiring a (Parked t row)) g is some = (a, t, row, refl)
granted_parked _ g is some = absurd (omega arith)

-- a grant of 2 is a grant
two_granted : (g : ℕ) → on g 2 1 ≤ granted g
two_granted zero = let none = on_else 0 2 1 (λ e. absurd (omega arith)) in omega arith
two_granted (suc g) = on_most (suc g) 2 1

module _ (m : Layout) (s : SemaWorld) (inv : IsInvariant m s) where
  -- the wait of k that seat i carries is that with which k is parked
  its_wait : (k i : ℕ) → i < m.seats → 0 < carries k (s.seats i).place (s.seats i).hand
      → (w : WaitId) × (c : ℕ) × (w.seat ≡ k) × (0 < times w (s.seats i).hand) × IsParked s k c w.turn
  its_wait k i h some =
      let at = carrying k (s.seats i).place (s.seats i).hand some in
      let w = at.0 in
      let v = in_a_hand m s inv.placed i w h at.2 in
      (w, v.0.counter, at.1, at.2, (v.0, refl, v.2, ap (λ z. (s.seats z).place) (sym at.1) ∙ v.3))

  pub served_parked : (k : ℕ) → 0 < served m s k → (c turn : ℕ) × IsParked s k c turn
  served_parked k some = by (ℕ_discrete (carried m s k) 0)
    where
      by : Dec (carried m s k ≡ 0) → (c turn : ℕ) × IsParked s k c turn
      by (yes none) =
          let two = on_some (s.words.grants k) 2 1 (omega arith) in
          let grant = two.0 in
          let at = granted_parked (s.seats k).place (s.words.grants k) (inv.seats k).granted (omega arith) in
          (at.0.counter, at.1, (at.0, refl, at.2, at.3))
      by (no ne) =
          let seat = total_some m.seats (λ i. carries k (s.seats i).place (s.seats i).hand) (omega arith) in
          let at = its_wait k seat.0 seat.1 seat.2 in (at.1, at.0.turn, at.4)

  -- where k is parked, what a hand carries for it is that wait
  each : (k c turn : ℕ) → IsParked s k c turn → (i : ℕ) → i < m.seats
      → carries k (s.seats i).place (s.seats i).hand ≤ times (wait k turn) (s.seats i).hand
  each k c turn parked i h = by (ℕ_discrete (carries k (s.seats i).place (s.seats i).hand) 0)
    where
      by : Dec (carries k (s.seats i).place (s.seats i).hand ≡ 0)
          → carries k (s.seats i).place (s.seats i).hand ≤ times (wait k turn) (s.seats i).hand
      by (yes none) = omega arith
      by (no ne) =
          let at = its_wait k i h (omega arith) in
          let same = one_parking s k k at.1 c at.0.turn turn refl at.4 parked in
          let has : 0 < times (wait k turn) (s.seats i).hand = subst₂ (λ x y. 0 < times (wait x y) (s.seats i).hand) at.2 same.1 at.3 in
          let most = carries_most k (s.seats i).place (s.seats i).hand in omega arith

  pub once : ServedOnce m s
  once k h = (by (ℕ_discrete (served m s k) 0), served_parked k)
    where
      by : Dec (served m s k ≡ 0) → served m s k ≤ 1
      by (yes none) = omega arith
      by (no ne) =
          let at = served_parked k (omega arith) in
          let parked = at.2 in
          let one = (law.the_law.lawful m s inv).once k at.0 at.1 h parked in
          let sole = one.0 in
          let hands = total_le m.seats (λ i. carries k (s.seats i).place (s.seats i).hand) (λ i. times (wait k at.1) (s.seats i).hand)
          (each k at.0 at.1 parked) in
          let grant = two_granted (s.words.grants k) in omega arith

pub served_once : (m : Layout) (s : SemaWorld) → IsInvariant m s → ServedOnce m s
served_once m s inv = once m s inv
