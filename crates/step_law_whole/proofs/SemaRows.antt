-- Row by row: how a row of a seat changes what it weighs, and whether it writes a number, another's grant, or neither.
use Rattle.std.proofs.Common.{◌≡◌, ℕ, zero, suc, ◌+◌, ◌-◌, ◌*◌, ◌<◌, ◌≢◌, ◌⊎◌, ◌==◌, ◌&&◌, if◌then◌else◌}
use Rattle.std.proofs.Common.{nat_lt, Bool, true, false, IsTrue, eqb, cond, List}
use Rattle.std.proofs.Common.{[], ◌∷◌, length, refl, sym, ap, subst, inl, inr, eq-eqb, ltb-true, arith}
use Rattle.std.proofs.lemmas.Bool.Decides.{eqb_tells}
use Rattle.waiters.specs.declared.wait.WaitId.{WaitId}
use Rattle.step_table.specs.declared.entry.Entry.TheVariants.{Take, Leave}
use Rattle.step_table.specs.declared.effect.Effect.TheVariants.{Nothing, Tells}
use Rattle.step_table.specs.declared.place.Acquire.{Acquire}
use Rattle.step_table.specs.declared.place.AcquireRow.TheVariants.{A1, A2, A3, A4, A5, A6, A7, A8, A9, Parked, A10, A11, D4}
use Rattle.step_table.specs.declared.place.ParkedRow.TheVariants.{P, D2, D3, D5}
use Rattle.step_table.specs.declared.place.ReleaseRow.TheVariants.{R1, R2, R3, R4, R5, R6, R7, R8, R9, R10}
use Rattle.step_table.specs.declared.place.ManyRow.TheVariants.{M1, M2, M3, M4, M5, M6, M7}
use Rattle.step_table.specs.declared.place.Place.{Place}
use Rattle.step_table.specs.declared.place.ParkedRow.{ParkedRow}
use Rattle.step_table.specs.declared.place.Place.TheVariants.{Rest, Acquiring, Releasing, ReleasingMany}
use Rattle.step_table.specs.World.{Layout, Words, SeatState, put, found, lists_after, seat_after, stands_in}
use Rattle.step_table.specs.Event.{Event, Next, zero_or, by_first, waiter}
use Rattle.step_table.specs.ReleaseMany.{after_leave}
use Rattle.step_table.specs.Table.{event_at}
use Rattle.step_table.specs.Steps.{words_after}
use Rattle.step_law_semaphores.specs.Lawful.{IsGrantOf}
use Rattle.step_law_semaphores.specs.Invariant.{HandFits}
use Rattle.step_table.proofs.Sums.{put_same, put_else, length_last}
use Rattle.step_law_whole.specs.SemaWeight.{place_weight, stale_by, stale, asleep_weight}

abbrev pub standing : Place → ℕ → List WaitId → SeatState
standing place turn hand = record { place = place; turn = turn; hand = hand }

-- a release that takes one more wait out has fewer in hand than there are other seats
abbrev pub HasRoom : ℕ → Place → ℕ → Type 0
HasRoom n (ReleasingMany r M5) in_hand = in_hand + 1 < n
HasRoom n _ in_hand = Unit {0}

-- what a seat weighs where nothing is stale
abbrev pub weighs : ℕ → SeatState → ℕ → ℕ
weighs n seat grant = place_weight n seat.place (length seat.hand) grant

-- a row of seat i, of n seats, from the seat p and the words g to the seat q and the words h
pub data Falls (n i : ℕ) (g : Words) (p q : SeatState) (h : Words) : Type 0 where
  -- it changes a number, and pays for all whose exchanges become stale
  pays : h.grants ≡ g.grants → stale h.numbers q.place ≡ 0 → weighs n q (h.grants i) + 2 * n < weighs n p (g.grants i) + 2
      → Falls n i g p q h
  -- it changes no number, and no other's grant
  alone : h.numbers ≡ g.numbers → ((k : ℕ) → k ≢ i → h.grants k ≡ g.grants k)
      → weighs n q (h.grants i) + stale g.numbers q.place < weighs n p (g.grants i) + stale g.numbers p.place → Falls n i g p q h
  -- it stores the grant x of the first wait in hand
  wakes : (w : WaitId) (l : List WaitId) (x : ℕ) → p.hand ≡ w ∷ l → ((a : Acquire) (t : ℕ) (row : ParkedRow) → p.place ≡ Acquiring a (Parked t row) → ⊥)
      → h.numbers ≡ g.numbers → h.grants ≡ put g.grants w.seat x → stale g.numbers q.place ≡ 0
      → weighs n q (g.grants i) + asleep_weight n x < weighs n p (g.grants i) + 2 * n → weighs n q (g.grants i) < weighs n p (g.grants i)
      → Falls n i g p q h

-- what was read just now is fresh
fresh : (left v : ℕ) → v ≡ suc left → stale_by left v ≡ 0
fresh left v e = ap (λ b. cond b 0 2) (eq-eqb v (left + 1) (omega arith))

-- a sleeper that was handed a unit
handed_one : (n t v : ℕ) → 0 < v → v ≢ 1 → asleep_weight n v ≡ 1
handed_one n t zero some ne = absurd (omega arith)
handed_one n t (suc zero) some ne = absurd (ne refl)
handed_one n t (suc (suc v)) some ne = refl

-- a sleeper weighs something
asleep_some : (n grant : ℕ) → 0 < n → 0 < asleep_weight n grant
asleep_some n zero some = omega arith
asleep_some n (suc zero) some = omega arith
asleep_some n (suc (suc grant)) some = omega arith

module _ (m : Layout) (n i : ℕ) (some : 0 < n) (g : Words) where
  -- the event at this seat, where it can be, is one of the three
  abbrev Runs : SeatState → Type 0
  Runs z =
      let e : Event = event_at i z g.lists z.place in
      let v : ℕ = found m.root g e.word in
      IsTrue (e.can v) → Falls n i g z (seat_after (e.leads v).1 (e.leads v).0 z) (words_after m.root g e v)

  -- the place weighs less
  abbrev Less : SeatState → Place → Type 0
  Less z place = weighs n (record z { place = place }) (g.grants i) + stale g.numbers place < weighs n z (g.grants i) + stale g.numbers z.place

  -- a load of a number
  looked : (z : SeatState) (c : ℕ) (at_zero : Place) (above : ℕ → Place) → Less z at_zero
      → ((left : ℕ) → g.numbers c ≡ suc left → Less z (above left))
      → Falls n i g z (record z { place = zero_or at_zero above (g.numbers c) }) (record g { numbers = put g.numbers c (g.numbers c) })
  looked z c at_zero above zero_case above_case = alone (put_same g.numbers c) (λ k ne. refl) (by (g.numbers c) refl)
    where
      by : (v : ℕ) → g.numbers c ≡ v → Less z (zero_or at_zero above v)
      by zero e = zero_case
      by (suc left) e = above_case left e

  -- a load of a waiter word, which leads on to one of two places
  counted : (z : SeatState) (v : ℕ) (h : Words) (at_zero above : Place) → h.numbers ≡ g.numbers
      → h.grants ≡ g.grants → Less z at_zero → Less z above
      → Falls n i g z (record z { place = zero_or at_zero (λ left. above) v }) h
  counted z zero h at_zero above numbers grants zero_case above_case = alone numbers (λ k ne j. grants j k) (rw grants zero_case)
  counted z (suc v) h at_zero above numbers grants zero_case above_case = alone numbers (λ k ne j. grants j k) (rw grants above_case)

  abbrev Exchanges : SeatState → ℕ → ℕ → ℕ → Place → Place → Bool → Type 0
  Exchanges z c left j won lost b =
      let next : Next = cond b (won, Tells (Take c j)) (lost, Nothing) in
      Falls n i g z (seat_after next.1 next.0 z)
      (record g { numbers = put g.numbers c (cond b left (g.numbers c)); lists = lists_after next.1 g.lists })

  -- an exchange takes a unit, and its seat pays for all others; or it was stale, and its seat has 2 more for its way round
  exchanged : (z : SeatState) (c left j : ℕ) (won lost : Place) → stale g.numbers z.place ≡ stale_by left (g.numbers c)
      → ((numbers : ℕ → ℕ) → stale numbers won ≡ 0) → weighs n (record z { place = won }) (g.grants i) + 2 * n < weighs n z (g.grants i) + 2
      → weighs n (record z { place = lost }) (g.grants i) + stale g.numbers lost < weighs n z (g.grants i) + 2
      → Exchanges z c left j won lost (g.numbers c == left + 1)
  exchanged z c left j won lost is lands wins loses = by (eqb_tells (g.numbers c) (left + 1))
    where
      less : stale_by left (g.numbers c) ≡ 2 → Less z lost
      less two = omega arith

      by : ((eqb (g.numbers c) (left + 1) ≡ true) × (g.numbers c ≡ left + 1))
          ⊎ ((eqb (g.numbers c) (left + 1) ≡ false) × (g.numbers c ≢ left + 1))
          → Exchanges z c left j won lost (g.numbers c == left + 1)
      by (inl e) = subst (Exchanges z c left j won lost) (sym e.0) (pays refl (lands _) wins)
      by (inr e) =
          subst (Exchanges z c left j won lost) (sym e.0) (alone (put_same g.numbers c) (λ k ne. refl) (less (ap (λ b. cond b 0 2) e.0)))

  pub falls : (place : Place) (t : ℕ) (hand : List WaitId) → HandFits place (length hand) → HasRoom n place (length hand) → IsGrantOf place (g.grants i)
      → Runs (standing place t hand)
  falls Rest t hand fits room granted can = cc
  falls (Acquiring a A1) t hand fits room granted can =
      looked (standing (Acquiring a A1) t hand) a.counter (Acquiring a A3) (λ left. Acquiring a (A2 left)) (omega arith)
      (λ left e. let now = fresh left (g.numbers a.counter) e in omega arith)
  falls (Acquiring a (A2 left)) t hand fits room granted can =
      exchanged (standing (Acquiring a (A2 left)) t hand) a.counter left i Rest (Acquiring a A1) refl (λ numbers. refl) (omega arith) (omega arith)
  falls (Acquiring a A3) t hand fits room granted can = alone refl (λ k ne. refl) (omega arith)
  falls (Acquiring a A4) t hand fits room granted can = alone refl (λ k ne. refl) (omega arith)
  falls (Acquiring a A5) t hand fits room granted can =
      looked (standing (Acquiring a A5) t hand) a.counter (Acquiring a A7) (λ left. Acquiring a (A6 left)) (omega arith)
      (λ left e. let now = fresh left (g.numbers a.counter) e in omega arith)
  falls (Acquiring a (A6 left)) t hand fits room granted can =
      exchanged (standing (Acquiring a (A6 left)) t hand) a.counter left i (Acquiring a A8) (Acquiring a A5) refl (λ numbers. refl) (omega arith) (omega arith)
  falls (Acquiring a A7) t hand fits room granted can =
      alone refl (λ k ne. refl) (let asleep = ap (asleep_weight n) granted in omega arith)
  falls (Acquiring a A8) t hand fits room granted can = alone refl (λ k ne. refl) (omega arith)
  falls (Acquiring a A9) t hand fits room granted can = alone refl (λ k ne. refl) (omega arith)
  falls (Acquiring a (Parked u P)) t hand fits room granted can = by (eqb_tells (g.grants i) 1)
    where
      Woken : Bool → Type 0
      Woken b =
          Falls n i g (standing (Acquiring a (Parked u P)) t hand) (standing (if b then Acquiring a A10 else Rest) t hand)
          (record g { grants = put g.grants i 0 })

      by : ((eqb (g.grants i) 1 ≡ true) × (g.grants i ≡ 1)) ⊎ ((eqb (g.grants i) 1 ≡ false) × (g.grants i ≢ 1)) → Woken (g.grants i == 1)
      by (inl e) =
          subst Woken (sym e.0)
          (alone refl (λ k ne. put_else g.grants i 0 k ne) (let woken = ap (asleep_weight n) e.1 in omega arith))
      by (inr e) =
          subst Woken (sym e.0)
          (alone refl (λ k ne. put_else g.grants i 0 k ne)
          (let served = handed_one n u (g.grants i) (ltb-true 0 (g.grants i) can) e.1 in omega arith))
  falls (Acquiring a (Parked u D2)) t hand fits room granted can = by (stands_in i (g.lists a.counter))
    where
      by : (b : Bool) → Falls n i g (standing (Acquiring a (Parked u D2)) t hand)
          (standing (if b then Acquiring a (Parked u D3) else Acquiring a (Parked u D5)) t hand)
          (record g { locks = put g.locks (m.root a.counter) 1 })
      by true = alone refl (λ k ne. refl) (let some_weight = asleep_some n (g.grants i) some in omega arith)
      by false = alone refl (λ k ne. refl) (omega arith)
  falls (Acquiring a (Parked u D3)) t hand fits room granted can =
      let none : g.grants i ≡ 0 = omega arith in
      let asleep = ap (asleep_weight n) none in alone refl (λ k ne. refl) (omega arith)
  falls (Acquiring a D4) t hand fits room granted can = alone refl (λ k ne. refl) (omega arith)
  falls (Acquiring a (Parked u D5)) t hand fits room granted can = alone refl (λ k ne. refl) (omega arith)
  falls (Acquiring a A10) t hand fits room granted can =
      looked (standing (Acquiring a A10) t hand) a.counter (Acquiring a A3) (λ left. Acquiring a (A11 left)) (omega arith)
      (λ left e. let now = fresh left (g.numbers a.counter) e in omega arith)
  falls (Acquiring a (A11 left)) t hand fits room granted can =
      exchanged (standing (Acquiring a (A11 left)) t hand) a.counter left i Rest (Acquiring a A10) refl (λ numbers. refl) (omega arith) (omega arith)
  falls (Releasing r R1) t hand fits room granted can = pays refl refl (omega arith)
  falls (Releasing r R2) t hand fits room granted can =
      counted (standing (Releasing r R2) t hand) (g.waiters (m.root r.counter)) _ Rest (Releasing r R3) refl refl (omega arith) (omega arith)
  falls (Releasing r R3) t hand fits room granted can = alone refl (λ k ne. refl) (omega arith)
  falls (Releasing r R4) t hand fits room granted can =
      counted (standing (Releasing r R4) t hand) (g.waiters (m.root r.counter)) _ (Releasing r R6)
      (by_first (g.lists r.counter) (Releasing r R6) (λ w. Releasing r R5)) refl refl (omega arith) (by (g.lists r.counter))
    where
      by : (l : List WaitId) → Less (standing (Releasing r R4) t hand) (by_first l (Releasing r R6) (λ w. Releasing r R5))
      by [] = omega arith
      by (w ∷ l) = omega arith
  falls (Releasing r R5) t hand fits room granted can = by (g.lists r.counter)
    where
      Leads : Next → Type 0
      Leads next =
          Falls n i g (standing (Releasing r R5) t hand) (seat_after next.1 next.0 (standing (Releasing r R5) t hand))
          (record g { waiters = put g.waiters (m.root r.counter) (g.waiters (m.root r.counter) - 1); lists = lists_after next.1 g.lists })

      by : (l : List WaitId) → Leads (by_first l (Releasing r R6, Nothing) (λ w. (Releasing r R6, Tells (Leave r.counter w i))))
      by [] = alone refl (λ k ne. refl) (omega arith)
      by (w ∷ l) = alone refl (λ k ne. refl) (omega arith)
  falls (Releasing r R6) t hand fits room granted can = by hand r.handoff
    where
      by : (l : List WaitId) (b : Bool) → Falls n i g (standing (Releasing (record r { handoff = b }) R6) t l)
          (standing (by_first l Rest (λ w. if b then Releasing r R7 else Releasing r R10)) t l)
          (record g { locks = put g.locks (m.root r.counter) 0 })
      by [] b = alone refl (λ k ne. refl) (omega arith)
      by (w ∷ l) true = alone refl (λ k ne. refl) (omega arith)
      by (w ∷ l) false = alone refl (λ k ne. refl) (omega arith)
  falls (Releasing r R7) t hand fits room granted can =
      looked (standing (Releasing r R7) t hand) r.counter (Releasing r R10) (λ left. Releasing r (R8 left)) (omega arith)
      (λ left e. let now = fresh left (g.numbers r.counter) e in omega arith)
  falls (Releasing r (R8 left)) t hand fits room granted can =
      exchanged (standing (Releasing r (R8 left)) t hand) r.counter left (waiter i hand) (Releasing r R9) (Releasing r R7) refl
      (λ numbers. refl) (omega arith) (omega arith)
  falls (Releasing r R9) t (w ∷ l) fits room granted can = wakes w l 2 refl (λ a u row e. cc) refl refl refl (omega arith) (omega arith)
  falls (Releasing r R9) t [] fits room granted can = absurd (omega arith)
  falls (Releasing r R10) t (w ∷ l) fits room granted can = wakes w l 1 refl (λ a u row e. cc) refl refl refl (omega arith) (omega arith)
  falls (Releasing r R10) t [] fits room granted can = absurd (omega arith)
  falls (ReleasingMany r M1) t hand fits room granted can = pays refl refl (omega arith)
  falls (ReleasingMany r M2) t hand fits room granted can =
      counted (standing (ReleasingMany r M2) t hand) (g.waiters (m.root r.counter)) _ Rest (ReleasingMany r M3) refl refl (omega arith) (omega arith)
  falls (ReleasingMany r M3) t hand fits room granted can = alone refl (λ k ne. refl) (omega arith)
  falls (ReleasingMany r M4) t hand fits room granted can =
      counted (standing (ReleasingMany r M4) t hand) (g.waiters (m.root r.counter)) _ (ReleasingMany r M6)
      (by_first (g.lists r.counter) (ReleasingMany r M6) (λ w. ReleasingMany r M5)) refl refl (omega arith) (by (g.lists r.counter))
    where
      by : (l : List WaitId) → Less (standing (ReleasingMany r M4) t hand) (by_first l (ReleasingMany r M6) (λ w. ReleasingMany r M5))
      by [] = let none = fits in omega arith
      by (w ∷ l) = let none = fits in omega arith
  falls (ReleasingMany r M5) t hand fits room granted can = by (g.lists r.counter)
    where
      z : SeatState
      z = standing (ReleasingMany r M5) t hand

      Leads : Next → Type 0
      Leads next =
          Falls n i g z (seat_after next.1 next.0 z)
          (record g { waiters = put g.waiters (m.root r.counter) (g.waiters (m.root r.counter) - 1); lists = lists_after next.1 g.lists })

      goes : (w : WaitId) (b : Bool) → Leads (if b then ReleasingMany r M5 else ReleasingMany r M6, Tells (Leave r.counter w i))
      goes w true = alone refl (λ k ne. refl) (let fewer = fits in let others = room in let longer = length_last w hand in omega arith)
      goes w false = alone refl (λ k ne. refl) (let fewer = fits in let others = room in let longer = length_last w hand in omega arith)

      by : (l : List WaitId)
          → Leads (by_first l (ReleasingMany r M6, Nothing) (λ w. (after_leave r (length hand) (length l), Tells (Leave r.counter w i))))
      by [] = alone refl (λ k ne. refl) (let fewer = fits in let others = room in omega arith)
      by (w ∷ l) = goes w (nat_lt (length hand + 1) r.units && nat_lt 1 (length (w ∷ l)))
  falls (ReleasingMany r M6) t [] fits room granted can = alone refl (λ k ne. refl) (omega arith)
  falls (ReleasingMany r M6) t (w ∷ l) fits room granted can = alone refl (λ k ne. refl) (omega arith)
  falls (ReleasingMany r M7) t [] fits room granted can = absurd (omega arith)
  falls (ReleasingMany r M7) t (w ∷ l) fits room granted can = by (nat_lt 1 (length (w ∷ l)))
    where
      by : (b : Bool)
          → Falls n i g (standing (ReleasingMany r M7) t (w ∷ l)) (standing (if b then ReleasingMany r M7 else Rest) t l)
          (record g { grants = put g.grants w.seat 1 })
      by true = wakes w l 1 refl (λ a u row e. cc) refl refl refl (omega arith) (omega arith)
      by false = wakes w l 1 refl (λ a u row e. cc) refl refl refl (omega arith) (omega arith)
