-- Each step of the table is one of the outcomes that have a constructor.
use Rattle.std.proofs.Common.{◌≡◌, ℕ, zero, suc, ◌+◌, ◌-◌, ◌<◌, ◌≢◌, ◌⊎◌, ◌==◌, if◌then◌else◌, Bool, true, false}
use Rattle.std.proofs.Common.{IsTrue, eqb, cond, ◌≤◌, ◌&&◌, nat_lt, List, [], ◌∷◌, ◌++◌, length, drop, refl, sym, ap, subst, inl, inr}
use Rattle.std.proofs.Common.{eqb-true, ltb-true, arith}
use native.Mathlib.Decide.{dec_lt}
use Rattle.std.proofs.lemmas.Bool.{lt-ltb, le-ltb}
use Rattle.std.proofs.lemmas.Bool.Decides.{eqb_tells}
use Rattle.waiters.specs.declared.wait.WaitId.{WaitId}
use Rattle.step_table.specs.declared.entry.Entry.TheVariants.{Take, Leave}
use Rattle.step_table.specs.declared.effect.Effect.{Effect}
use Rattle.step_table.specs.declared.effect.Effect.TheVariants.{Nothing, Tells, Wakes}
use Rattle.step_table.specs.declared.place.AcquireRow.TheVariants.{A1, A2, A3, A4, A5, A6, A7, A8, A9, A10, A11, D4, Parked}
use Rattle.step_table.specs.declared.place.ParkedRow.TheVariants.{P, D2, D3, D5}
use Rattle.step_table.specs.declared.place.ReleaseRow.TheVariants.{R1, R2, R3, R4, R5, R6, R7, R8, R9, R10}
use Rattle.step_table.specs.declared.place.ManyRow.TheVariants.{M1, M2, M3, M4, M5, M6, M7}
use Rattle.step_table.specs.declared.place.Place.{Place}
use Rattle.step_table.specs.declared.place.Place.TheVariants.{Rest, Acquiring, Releasing, ReleasingMany}
use Rattle.step_table.specs.declared.word.Word.{Word}
use Rattle.step_table.specs.declared.word.Word.TheVariants.{Counter, Waiters}
use Rattle.step_table.specs.World.{Layout, Words, SeatState, SemaWorld, put, found, written, lists_after, journal_after, seat_after}
use Rattle.step_table.specs.World.{stands_in}
use Rattle.step_table.specs.Counting.{wait}
use Rattle.step_table.specs.Event.{Event, Next, zero_or, by_first}
use Rattle.step_table.specs.ReleaseMany.{after_leave}
use Rattle.step_table.specs.Table.{event_at}
use Rattle.step_table.specs.Steps.{Choice, acquire, enter, release, release_many, give_up, give_up_lock, decide, leave, sleep_on, stay, words_after}
use Rattle.step_table.specs.Steps as steps
use Rattle.step_law_semaphores.specs.Lawful.{IsGrantOf}
use Rattle.step_law_semaphores.specs.Invariant.{HandFits, IsSeat, Finds}
use Rattle.step_table.proofs.Sums.{unwritten}
use Rattle.step_law_semaphores.proofs.Lines.{standing, acquiring, releasing, releasing_many, Line, begin_acquire, begin_enter, begin_release, end_first}
use Rattle.step_law_semaphores.proofs.Lines.{decides, end_lock, a1_zero, a1_some, a2_won, a2_lost, a3, a4, a5_zero, a5_some, a6_won, a6_lost, a7, a8, a9, p_one}
use Rattle.step_law_semaphores.proofs.Lines.{p_two, a10_zero, a10_some, a11_won, a11_lost, r1, r2_zero, r2_some, r3, r4_none, r4_some, r5, r6_none, r6_plain}
use Rattle.step_law_semaphores.proofs.Lines.{r6_handoff, r7_zero, r7_some, r8_won, r8_lost, begin_many, m1, m2_zero, m2_some, m3, m4_none, m4_some, m5_more}
use Rattle.step_law_semaphores.proofs.Lines.{m5_last, m6_none, m6_some, begins_leaving, sleeps_on, stays_queued, d2_queued, d2_gone, d3, d4, d5, Post, r9, r10, m7_last, m7_more, Step, own, post}

-- what is shown in both cases of a test
by_zero : (Has : Place → Type 0) (n : ℕ) (p : Place) (f : ℕ → Place)
    → (n ≡ 0 → Has p) → ((left : ℕ) → n ≡ suc left → Has (f left)) → Has (zero_or p f n)
by_zero Has zero p f at_zero above = at_zero refl
by_zero Has (suc left) p f at_zero above = above left refl

tested : {A : Type 0} (Has : A → Type 0) (n v : ℕ) (a b : A) → (n ≡ v → Has a) → (n ≢ v → Has b) → Has (if n == v then a else b)
tested Has n v a b p q = by (eqb_tells n v)
  where
    by : ((eqb n v ≡ true) × (n ≡ v)) ⊎ ((eqb n v ≡ false) × (n ≢ v)) → Has (if n == v then a else b)
    by (inl e) = subst (λ t. Has (cond t a b)) (sym e.0) (p e.1)
    by (inr e) = subst (λ t. Has (cond t a b)) (sym e.0) (q e.1)

tested_less : {A : Type 0} (Has : A → Type 0) (n v : ℕ) (a b : A) → (n < v → Has a) → (v ≤ n → Has b) → Has (if nat_lt n v then a else b)
tested_less Has n v a b p q = by (dec_lt n v)
  where
    by : Dec (n < v) → Has (if nat_lt n v then a else b)
    by (yes less) = subst (λ t. Has (cond t a b)) (sym (lt-ltb n v less)) (p less)
    by (no more) = let le : v ≤ n = omega arith in subst (λ t. Has (cond t a b)) (sym (le-ltb n v le)) (q le)

tested_both : {A : Type 0} (Has : A → Type 0) (n v k u : ℕ) (a b : A) → (n < v → k < u → Has a) → ((v ≤ n) ⊎ (u ≤ k) → Has b)
    → Has (if nat_lt n v && nat_lt k u then a else b)
tested_both Has n v k u a b p q = by (dec_lt n v)
  where
    by : Dec (n < v) → Has (if nat_lt n v && nat_lt k u then a else b)
    by (yes less) =
        subst (λ t. Has (cond (t && nat_lt k u) a b)) (sym (lt-ltb n v less)) (tested_less Has k u a b (p less) (λ le. q (inr le)))
    by (no more) = let le : v ≤ n = omega arith in subst (λ t. Has (cond (t && nat_lt k u) a b)) (sym (le-ltb n v le)) (q (inl le))

-- a row of the table is one of the two, with the seat, the words and the effect that it leads to
data Case (m : Layout) (i : ℕ) (g : Words) (p : SeatState) : SeatState → Words → Effect → Type 0 where
  line : {q : SeatState} {h : Words} {e : Effect} → Line m i g p q h e → Case m i g p q h e
  grant : {c x : ℕ} {w : WaitId} {q : SeatState} → Post p q c w x → Case m i g p q (record g { grants = put g.grants w.seat x }) Wakes

module _ (m : Layout) (i : ℕ) (g : Words) where
  -- the event at this seat, where it can be, is one of the cases
  abbrev Runs : SeatState → Type 0
  Runs z =
      let e : Event = event_at i z g.lists z.place in
      let v : ℕ = found m.root g e.word in
      IsTrue (e.can v) → Case m i g z (seat_after (e.leads v).1 (e.leads v).0 z) (words_after m.root g e v) (e.leads v).1

  -- a load keeps the words
  abbrev Looks : SeatState → Place → Type 0
  Looks z place = Line m i g z (record z { place = place }) g Nothing

  looked : {z : SeatState} (w : Word) (place : Place) → Looks z place
      → Case m i g z (record z { place = place }) (written m.root g w (found m.root g w)) Nothing
  looked {z = z} w place looks = subst (λ h. Case m i g z (record z { place = place }) h Nothing) (sym (unwritten m.root g w)) (line looks)

  looked_for_zero : {z : SeatState} (w : Word) (at_zero : Place) (above : ℕ → Place) → (found m.root g w ≡ 0 → Looks z at_zero)
      → ((left : ℕ) → found m.root g w ≡ suc left → Looks z (above left))
      → let place = zero_or at_zero above (found m.root g w) in
      Case m i g z (record z { place = place }) (written m.root g w (found m.root g w)) Nothing
  looked_for_zero {z = z} w at_zero above zero_case above_case =
      looked w (zero_or at_zero above (found m.root g w)) (by_zero (Looks z) (found m.root g w) at_zero above zero_case above_case)

  -- an exchange takes a unit, or keeps the words
  abbrev Exchanges : SeatState → ℕ → ℕ → ℕ → Place → Place → Bool → Type 0
  Exchanges z c left j won lost b =
      let next : Next = cond b (won, Tells (Take c j)) (lost, Nothing) in
      Case m i g z (seat_after next.1 next.0 z)
      (record g { numbers = put g.numbers c (cond b left (g.numbers c)); lists = lists_after next.1 g.lists }) next.1

  exchanged : {z : SeatState} (c left j : ℕ) (won lost : Place)
      → (g.numbers c ≡ suc left → Line m i g z (record z { place = won }) (record g { numbers = put g.numbers c left }) (Tells (Take c j)))
      → (g.numbers c ≢ suc left → Looks z lost) → Exchanges z c left j won lost (g.numbers c == left + 1)
  exchanged {z = z} c left j won lost wins loses = by (eqb_tells (g.numbers c) (left + 1))
    where
      by : ((eqb (g.numbers c) (left + 1) ≡ true) × (g.numbers c ≡ left + 1))
          ⊎ ((eqb (g.numbers c) (left + 1) ≡ false) × (g.numbers c ≢ left + 1))
          → Exchanges z c left j won lost (g.numbers c == left + 1)
      by (inl e) = subst (Exchanges z c left j won lost) (sym e.0) (line (wins (let found_one_more = e.1 in omega arith)))
      by (inr e) = subst (Exchanges z c left j won lost) (sym e.0) (looked (Counter c) lost (loses (λ found. e.1 (omega arith))))

  runs : (place : Place) (t : ℕ) (hand : List WaitId) → HandFits place (length hand) → IsGrantOf place (g.grants i) → Finds i g.lists place
      → Runs (standing place t hand)
  runs Rest t [] fits granted finds can = cc
  runs (Acquiring a A1) t [] fits granted finds can =
      looked_for_zero (Counter a.counter) (Acquiring a A3) (λ left. Acquiring a (A2 left)) a1_zero (λ n e. a1_some e)
  runs (Acquiring a (A2 n)) t [] fits granted finds can = exchanged a.counter n i Rest (Acquiring a A1) a2_won a2_lost
  runs (Acquiring a A3) t [] fits granted finds can = line (a3 (eqb-true _ 0 can))
  runs (Acquiring a A4) t [] fits granted finds can = line a4
  runs (Acquiring a A5) t [] fits granted finds can =
      looked_for_zero (Counter a.counter) (Acquiring a A7) (λ left. Acquiring a (A6 left)) a5_zero (λ n e. a5_some e)
  runs (Acquiring a (A6 n)) t [] fits granted finds can = exchanged a.counter n i (Acquiring a A8) (Acquiring a A5) a6_won a6_lost
  runs (Acquiring a A7) t [] fits granted finds can = line a7
  runs (Acquiring a A8) t [] fits granted finds can = line a8
  runs (Acquiring a A9) t [] fits granted finds can = line a9
  runs (Acquiring a (Parked u P)) t [] fits granted finds can =
      let some : 0 < g.grants i = ltb-true 0 (g.grants i) can in
      tested (λ q. Case m i g (acquiring a (Parked u P) t) (standing q t []) (record g { grants = put g.grants i 0 }) Nothing)
      (g.grants i) 1 (Acquiring a A10) Rest (λ one. line (p_one one)) (λ not_one. line (p_two (omega arith)))
  runs (Acquiring a (Parked u D2)) t [] fits granted finds can = by (stands_in i (g.lists a.counter)) refl
    where
      free : g.locks (m.root a.counter) ≡ 0
      free = eqb-true _ 0 can

      by : (b : Bool) → stands_in i (g.lists a.counter) ≡ b
          → Case m i g (acquiring a (Parked u D2) t)
          (standing (if b then Acquiring a (Parked u D3) else Acquiring a (Parked u D5)) t [])
          (record g { locks = put g.locks (m.root a.counter) 1 }) Nothing
      by true e = line (d2_queued free e)
      by false e = line (d2_gone free)
  runs (Acquiring a (Parked u D3)) t [] fits granted finds can = line (d3 finds)
  runs (Acquiring a D4) t [] fits granted finds can = line d4
  runs (Acquiring a (Parked u D5)) t [] fits granted finds can = line d5
  runs (Acquiring a A10) t [] fits granted finds can =
      looked_for_zero (Counter a.counter) (Acquiring a A3) (λ left. Acquiring a (A11 left)) a10_zero (λ n e. a10_some e)
  runs (Acquiring a (A11 n)) t [] fits granted finds can = exchanged a.counter n i Rest (Acquiring a A10) a11_won a11_lost
  runs (Releasing r R1) t [] fits granted finds can = line r1
  runs (Releasing r R2) t [] fits granted finds can = looked_for_zero (Waiters r.counter) Rest (λ left. Releasing r R3) r2_zero (λ n e. r2_some)
  runs (Releasing r R3) t [] fits granted finds can = line (r3 (eqb-true _ 0 can))
  runs (Releasing r R4) t [] fits granted finds can =
      looked_for_zero (Waiters r.counter) (Releasing r R6) (λ left. by_first (g.lists r.counter) (Releasing r R6) (λ w. Releasing r R5))
      (λ e. r4_none (inl e)) (λ n e. by (g.lists r.counter) refl)
    where
      by : (l : List WaitId) → g.lists r.counter ≡ l → Looks (releasing r R4 t []) (by_first l (Releasing r R6) (λ w. Releasing r R5))
      by [] e = r4_none (inr e)
      by (w ∷ l) e = r4_some (let some = ap length e in omega arith)
  runs (Releasing r R5) t [] fits granted finds can = by (g.lists r.counter) refl
    where
      Leads : Next → Type 0
      Leads next =
          Case m i g (releasing r R5 t []) (seat_after next.1 next.0 (releasing r R5 t []))
          (record g { waiters = put g.waiters (m.root r.counter) (g.waiters (m.root r.counter) - 1); lists = lists_after next.1 g.lists }) next.1

      by : (l : List WaitId) → g.lists r.counter ≡ l
          → Leads (by_first l (Releasing r R6, Nothing) (λ w. (Releasing r R6, Tells (Leave r.counter w i))))
      by [] e = let none = ap length e in absurd (omega arith)
      by (w ∷ l) e =
          subst (λ rest. Case m i g (releasing r R5 t []) (releasing r R6 t (w ∷ []))
          (record g { waiters = put g.waiters (m.root r.counter) (g.waiters (m.root r.counter) - 1); lists = put g.lists r.counter rest })
          (Tells (Leave r.counter w i))) (sym (ap (drop 1) e)) (line (r5 e))
  runs (Releasing r R6) t [] fits granted finds can = line r6_none
  runs (Releasing r R6) t (w ∷ []) fits granted finds can = by r.handoff
    where
      by : (handoff : Bool) → Case m i g (releasing r R6 t (w ∷ [])) (standing (if handoff then Releasing r R7 else Releasing r R10) t (w ∷ []))
          (record g { locks = put g.locks (m.root r.counter) 0 }) Nothing
      by true = line r6_handoff
      by false = line r6_plain
  runs (Releasing r R7) t (w ∷ []) fits granted finds can =
      looked_for_zero (Counter r.counter) (Releasing r R10) (λ left. Releasing r (R8 left)) (λ e. r7_zero) (λ n e. r7_some)
  runs (Releasing r (R8 n)) t (w ∷ []) fits granted finds can = exchanged r.counter n w.seat (Releasing r R9) (Releasing r R7) r8_won (λ e. r8_lost)
  runs (Releasing r R9) t (w ∷ []) fits granted finds can = grant r9
  runs (Releasing r R10) t (w ∷ []) fits granted finds can = grant r10
  runs (ReleasingMany r M1) t [] fits granted finds can = line m1
  runs (ReleasingMany r M2) t [] fits granted finds can =
      looked_for_zero (Waiters r.counter) Rest (λ left. ReleasingMany r M3) m2_zero (λ n e. m2_some)
  runs (ReleasingMany r M3) t [] fits granted finds can = line (m3 (eqb-true _ 0 can))
  runs (ReleasingMany r M4) t [] fits granted finds can =
      looked_for_zero (Waiters r.counter) (ReleasingMany r M6)
      (λ left. by_first (g.lists r.counter) (ReleasingMany r M6) (λ w. ReleasingMany r M5))
      (λ e. m4_none (inl e)) (λ n e. by (g.lists r.counter) refl)
    where
      by : (l : List WaitId) → g.lists r.counter ≡ l
          → Looks (releasing_many r M4 t []) (by_first l (ReleasingMany r M6) (λ w. ReleasingMany r M5))
      by [] e = m4_none (inr e)
      by (w ∷ l) e = m4_some (let some = ap length e in omega arith)
  runs (ReleasingMany r M5) t hand fits granted finds can = by (g.lists r.counter) refl
    where
      -- the wait w has gone into the hand, and the list is this
      Left : WaitId → List WaitId → Place → Type 0
      Left w list place =
          Case m i g (releasing_many r M5 t hand) (standing place t (hand ++ w ∷ []))
          (record g { waiters = put g.waiters (m.root r.counter) (g.waiters (m.root r.counter) - 1); lists = put g.lists r.counter list })
          (Tells (Leave r.counter w i))

      Leads : Next → Type 0
      Leads next =
          Case m i g (releasing_many r M5 t hand) (seat_after next.1 next.0 (releasing_many r M5 t hand))
          (record g { waiters = put g.waiters (m.root r.counter) (g.waiters (m.root r.counter) - 1); lists = lists_after next.1 g.lists }) next.1

      by : (l : List WaitId) → g.lists r.counter ≡ l
          → Leads (by_first l (ReleasingMany r M6, Nothing) (λ w. (after_leave r (length hand) (length l), Tells (Leave r.counter w i))))
      by [] e = let none = ap length e in absurd (omega arith)
      by (w ∷ l) e =
          tested_both (Left w (drop 1 (g.lists r.counter))) (length hand + 1) r.units 1 (length (w ∷ l)) (ReleasingMany r M5) (ReleasingMany r M6)
          (λ fewer some. subst (λ rest. Left w rest (ReleasingMany r M5)) (sym (ap (drop 1) e)) (line (m5_more e fewer (omega arith))))
          (λ last. subst (λ rest. Left w rest (ReleasingMany r M6)) (sym (ap (drop 1) e)) (line (m5_last e (at_last last))))
        where
          at_last : (r.units ≤ length hand + 1) ⊎ (length (w ∷ l) ≤ 1) → (length hand + 1 ≡ r.units) ⊎ (length l ≡ 0)
          at_last (inl all) = inl (omega arith)
          at_last (inr none) = inr (omega arith)
  runs (ReleasingMany r M6) t [] fits granted finds can = line m6_none
  runs (ReleasingMany r M6) t (w ∷ l) fits granted finds can = line m6_some
  runs (ReleasingMany r M7) t (w ∷ []) fits granted finds can = grant m7_last
  runs (ReleasingMany r M7) t (w ∷ x ∷ l) fits granted finds can =
      tested_less (λ q. Case m i g (releasing_many r M7 t (w ∷ x ∷ l)) (standing q t (x ∷ l)) (record g { grants = put g.grants w.seat 1 }) Wakes)
      1 (length (w ∷ x ∷ l)) (ReleasingMany r M7) Rest (λ more. grant m7_more) (λ none. absurd (omega arith))
  runs _ t hand fits granted finds can = absurd (omega arith)

  chosen : {p q : Place} → Choice m.counters p q → (t : ℕ) (hand : List WaitId) → HandFits p (length hand)
      → Line m i g (standing p t hand) (standing q t hand) g Nothing
  chosen (acquire a within) t [] fits = begin_acquire within
  chosen (enter a within) t [] fits = begin_enter within
  chosen (release r within) t [] fits = begin_release within
  chosen (release_many r within some few) t [] fits = begin_many within some few
  chosen (give_up a) t [] fits = end_first
  chosen (give_up_lock a) t [] fits = end_lock
  chosen (decide r handoff) t [] fits = decides
  chosen (leave a turn) t [] fits = begins_leaving
  chosen (sleep_on a turn) t [] fits = sleeps_on
  chosen (stay a turn) t [] fits = stays_queued
  chosen _ t hand fits = absurd (omega arith)

case_step : (m : Layout) (s : SemaWorld) (i : ℕ) {q : SeatState} {h : Words} {e : Effect} → Case m i s.words (s.seats i) q h e
    → Step m s i (record { words = h; seats = put s.seats i q; journal = journal_after e s.journal })
case_step m s i (line x) = own x
case_step m s i (grant x) = post x

-- each step of the table is one of the cases
pub step_of : (m : Layout) (s t : SemaWorld) (i : ℕ) → IsSeat m.counters (s.seats i) (s.words.grants i) → Finds i s.words.lists (s.seats i).place
    → steps.Step m s i t → Step m s i t
step_of m s t i seat some = by
  where
    z : SeatState
    z = s.seats i

    by : {u : SemaWorld} → steps.Step m s i u → Step m s i u
    by (steps.turn x) = subst (Step m s i) (sym x.is) (case_step m s i (runs m i s.words z.place z.turn z.hand seat.fits seat.granted some x.can))
    by (steps.choose choice) = own (chosen m i s.words choice z.turn z.hand seat.fits)
