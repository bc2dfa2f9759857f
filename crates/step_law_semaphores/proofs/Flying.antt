-- While a wait is queued on a counter, or a seat is committed there, its number is at most what helps.
use Rattle.std.proofs.Common.{◌≡◌, ℕ, suc, ◌+◌, ◌<◌, ◌≤◌, ◌⊎◌, List, [], ◌∷◌, ◌++◌, length, refl, sym, ap, ap₂}
use Rattle.std.proofs.Common.{◌∙◌, inl, inr, arith}
use native.Mathlib.Decide.{ℕ_discrete}
use Rattle.waiters.specs.declared.wait.WaitId.{WaitId}
use Rattle.step_table.specs.declared.effect.Effect.{Effect}
use Rattle.step_table.specs.declared.place.Acquire.{Acquire}
use Rattle.step_table.specs.declared.place.AcquireRow.TheVariants.{A7, Parked}
use Rattle.step_table.specs.declared.place.ParkedRow.TheVariants.{P, D2, D3, D5}
use Rattle.step_table.specs.declared.place.Place.{Place}
use Rattle.step_table.specs.declared.place.ParkedRow.{ParkedRow}
use Rattle.step_table.specs.declared.place.Place.TheVariants.{Acquiring}
use Rattle.step_table.specs.World.{Layout, Words, SeatState, SemaWorld, put, insert_wait, without}
use Rattle.step_table.specs.Counting.{on, total, wait, IsWithin}
use Rattle.step_law_semaphores.specs.Lawful.{holds, raises, IsGrantOf}
use Rattle.step_law_semaphores.specs.Invariant.{SeatsKnown, LocksOwned, WaitersRaised, WaitsPlaced, UnitsHelp, commits, helps, helps_at}
use Rattle.step_table.proofs.Sums.{on_here, on_else, on_add, on_zero, put_here, total_le, total_rest, owned, posted, pick, list_up, list_down, up, up_by, down}
use Rattle.step_table.proofs.Sums.{length_insert, length_last}
use Rattle.step_table.proofs.Withdrawing.{length_without}
use Rattle.step_law_semaphores.proofs.Lines.{Line, begin_acquire, a2_won, a5_zero, a6_won, a7, p_one, p_two, a10_zero, a11_won}
use Rattle.step_law_semaphores.proofs.Lines.{r1, r2_zero, r4_none, r5, r8_won, m1, m2_zero, m4_none, m5_more, m5_last, m6_none}
use Rattle.step_law_semaphores.proofs.Lines.{Post, r9, r10, m7_last, m7_more, Step, own, post}
use Rattle.step_law_semaphores.proofs.Lines.{begins_leaving, sleeps_on, stays_queued, d2_queued, d2_gone, d3, d5}
use Rattle.step_law_semaphores.proofs.Raising.{lists_below}
use Rattle.step_law_semaphores.proofs.Placing.{waiter_of_post, other_seat, grants_else}

-- what is claimed of the counter d, when so many seats are committed on it and so many help
abbrev Few : Words → ℕ → ℕ → ℕ → Type 0
Few g d committed helping = 0 < length (g.lists d) + committed → g.numbers d ≤ helping

-- under a waiter word of 0 nobody waits or is committed, and where a seat holds the lock nobody else is committed
record Known (m : Layout) (g : Words) (p : Place) (grant : ℕ) (committed : ℕ → ℕ) : Type 0 where
  nobody : (c : ℕ) → c < m.counters → g.waiters (m.root c) ≡ 0 → length (g.lists c) + committed c ≡ 0
  alone : (c : ℕ) → 0 < holds m.root (m.root c) p → committed c ≤ commits c p
  within : IsWithin m.counters p
  granted : IsGrantOf p grant

-- a seat that reads 0 at c may commit itself there, or stop helping there
reads_zero : (g : Words) (c d committed helping committed_after helping_after : ℕ) → g.numbers c ≡ 0
    → committed_after ≤ committed + on c d 1 → helping ≤ helping_after + on c d 1 → Few g d committed helping
    → Few g d committed_after helping_after
reads_zero g c d committed helping committed_after helping_after none commit stop before now = by (pick 1 g.numbers c d)
  where
    by : (g.numbers c ≡ g.numbers d) ⊎ (on c d 1 ≡ 0) → g.numbers d ≤ helping_after
    by (inl here) = omega arith
    by (inr elsewhere) = let few = before (omega arith) in omega arith

-- a seat may stop helping with n units at c where nobody waits
nobody_waits : (n : ℕ) (g : Words) (c d : ℕ) (committed : ℕ → ℕ) (helping committed_after helping_after : ℕ)
    → length (g.lists c) + committed c ≡ 0
    → committed_after ≤ committed d → helping ≤ helping_after + on c d n → Few g d (committed d) helping → Few g d committed_after helping_after
nobody_waits n g c d committed helping committed_after helping_after none commit stop before now = by (pick n (λ z. length (g.lists z) + committed z) c d)
  where
    by : (length (g.lists c) + committed c ≡ length (g.lists d) + committed d) ⊎ (on c d n ≡ 0) → g.numbers d ≤ helping_after
    by (inl here) = absurd (omega arith)
    by (inr elsewhere) = let few = before (omega arith) in omega arith

-- a unit is taken from c
taken : (g : Words) (c left d : ℕ) → g.numbers c ≡ suc left → put g.numbers c left d + on c d 1 ≡ g.numbers d
taken g c left d found = down g.numbers c left d (omega arith)

-- the holder of the lock of c saw nobody there: under a waiter word of 0, or in an empty list
nobody_there : {m : Layout} {g : Words} {p : Place} {grant : ℕ} (committed : ℕ → ℕ) → Known m g p grant committed → (c : ℕ) → c < m.counters
    → ((r : ℕ) → holds m.root r p ≡ on (m.root c) r 1) → commits c p ≡ 0
    → (g.waiters (m.root c) ≡ 0) ⊎ (g.lists c ≡ []) → length (g.lists c) + committed c ≡ 0
nobody_there committed known c within held uncommitted (inl zero_raised) = known.nobody c within zero_raised
nobody_there {m = m} {g = g} committed known c within held uncommitted (inr empty) =
    let lock = on_here (m.root c) 1 in
    let its = held (m.root c) in
    let alone = known.alone c (omega arith) in
    let none_queued : length (g.lists c) ≡ 0 = ap length empty in omega arith

rows : {m : Layout} {i : ℕ} {g h : Words} {p q : SeatState} {e : Effect} → Line m i g p q h e → (committed : ℕ → ℕ) → Known m g p.place (g.grants i) committed
    → (d helping committed_after helping_after : ℕ) → committed_after + commits d p.place ≡ committed d + commits d q.place
    → helping_after + helps d p (g.grants i) ≡ helping + helps d q (h.grants i) → Few g d (committed d) helping → Few h d committed_after helping_after
rows (begin_acquire _) committed known d n c' n' commit help before now = let few = before (omega arith) in omega arith
rows {g = g} (a2_won {a = a} {n = left} found) committed known d n c' n' commit help before now =
    let less = taken g a.counter left d found in let few = before (omega arith) in omega arith
rows {g = g} (a5_zero {a = a} none) committed known d n c' n' commit help before now =
    reads_zero g a.counter d (committed d) n c' n' none (omega arith) (omega arith) before now
rows {g = g} (a6_won {a = a} {n = left} found) committed known d n c' n' commit help before now =
    let less = taken g a.counter left d found in let few = before (omega arith) in omega arith
rows {i = i} {g = g} (a7 {a = a} {t = t}) committed known d n c' n' commit help before now =
    let l = g.lists a.counter in
    let longer = list_up length g.lists a.counter (insert_wait a.lifo (wait i t) l) d 1 (length_insert a.lifo (wait i t) l) in
    let few = before (omega arith) in omega arith
rows (p_one {a = a} {u = u} woken) committed known d n c' n' commit help before now =
    let helped = ap (helps_at d (Acquiring a (Parked u P)) []) woken in let few = before (omega arith) in omega arith
rows (p_two {a = a} {u = u} served) committed known d n c' n' commit help before now =
    let helped = ap (helps_at d (Acquiring a (Parked u P)) []) served in let few = before (omega arith) in omega arith
rows {i = i} {g = g} (begins_leaving {a = a} {u = u}) committed known d n c' n' commit help before now =
    let same : helps_at d (Acquiring a (Parked u P)) [] (g.grants i) ≡ helps_at d (Acquiring a (Parked u D2)) [] (g.grants i) = refl in
    let few = before (omega arith) in omega arith
rows {i = i} {g = g} (sleeps_on {a = a} {u = u}) committed known d n c' n' commit help before now =
    let same : helps_at d (Acquiring a (Parked u P)) [] (g.grants i) ≡ helps_at d (Acquiring a (Parked u D2)) [] (g.grants i) = refl in
    let few = before (omega arith) in omega arith
rows {i = i} {g = g} (stays_queued {a = a} {u = u}) committed known d n c' n' commit help before now =
    let same : helps_at d (Acquiring a (Parked u D3)) [] (g.grants i) ≡ helps_at d (Acquiring a (Parked u D5)) [] (g.grants i) = refl in
    let few = before (omega arith) in omega arith
rows {i = i} {g = g} (d2_queued {a = a} {u = u} _ _) committed known d n c' n' commit help before now =
    let same : helps_at d (Acquiring a (Parked u D2)) [] (g.grants i) ≡ helps_at d (Acquiring a (Parked u D3)) [] (g.grants i) = refl in
    let few = before (omega arith) in omega arith
rows {i = i} {g = g} (d2_gone {a = a} {u = u} _) committed known d n c' n' commit help before now =
    let same : helps_at d (Acquiring a (Parked u D2)) [] (g.grants i) ≡ helps_at d (Acquiring a (Parked u D5)) [] (g.grants i) = refl in
    let few = before (omega arith) in omega arith
rows {i = i} {g = g} (d3 {a = a} {u = u} stands) committed known d n c' n' commit help before now =
    let l = g.lists a.counter in
    let shorter = list_down length g.lists a.counter (without i l) d 1 (length_without (wait i u) l stands) in
    let none : g.grants i ≡ 0 = let most = known.granted in omega arith in
    let unhelped : helps_at d (Acquiring a (Parked u D3)) [] (g.grants i) ≡ 0 = ap (helps_at d (Acquiring a (Parked u D3)) []) none in
    let few = before (omega arith) in omega arith
rows {i = i} {g = g} (d5 {a = a} {u = u}) committed known d n c' n' commit help before now =
    let same : helps_at d (Acquiring a (Parked u D5)) [] (g.grants i) ≡ helps_at d (Acquiring a (Parked u P)) [] (g.grants i) = refl in
    let few = before (omega arith) in omega arith
rows {g = g} (a10_zero {a = a} none) committed known d n c' n' commit help before now =
    reads_zero g a.counter d (committed d) n c' n' none (omega arith) (omega arith) before now
rows {g = g} (a11_won {a = a} {n = left} found) committed known d n c' n' commit help before now =
    let less = taken g a.counter left d found in let few = before (omega arith) in omega arith
rows {g = g} (r1 {r = r}) committed known d n c' n' commit help before now =
    let more = up g.numbers r.counter (g.numbers r.counter + 1) d refl in let few = before (omega arith) in omega arith
rows {g = g} (r2_zero {r = r} none) committed known d n c' n' commit help before now =
    nobody_waits 1 g r.counter d committed n c' n' (known.nobody r.counter known.within none) (omega arith) (omega arith) before now
rows {g = g} (r4_none {r = r} none) committed known d n c' n' commit help before now =
    nobody_waits 1 g r.counter d committed n c' n' (nobody_there committed known r.counter known.within (λ x. refl) refl none)
    (omega arith) (omega arith) before now
rows {g = g} (r5 {r = r} {l = l} first) committed known d n c' n' commit help before now =
    let longer : length (g.lists r.counter) ≡ suc (length l) = ap length first in
    let shorter = list_down length g.lists r.counter l d 1 (omega arith) in let few = before (omega arith) in omega arith
rows {g = g} (r8_won {r = r} {n = left} found) committed known d n c' n' commit help before now =
    let less = taken g r.counter left d found in let few = before (omega arith) in omega arith
rows {g = g} (m1 {r = r}) committed known d n c' n' commit help before now =
    let more = up_by r.units g.numbers r.counter (g.numbers r.counter + r.units) d refl in let few = before (omega arith) in omega arith
rows {g = g} (m2_zero {r = r} none) committed known d n c' n' commit help before now =
    nobody_waits r.units g r.counter d committed n c' n' (known.nobody r.counter known.within.0 none) (omega arith) (omega arith) before now
rows {g = g} (m4_none {r = r} none) committed known d n c' n' commit help before now =
    nobody_waits r.units g r.counter d committed n c' n' (nobody_there committed known r.counter known.within.0 (λ x. refl) refl none)
    (omega arith) (omega arith) before now
rows {g = g} (m5_more {r = r} {l = l} first _ _) committed known d n c' n' commit help before now =
    let longer : length (g.lists r.counter) ≡ suc (length l) = ap length first in
    let shorter = list_down length g.lists r.counter l d 1 (omega arith) in let few = before (omega arith) in omega arith
rows {m = m} {g = g} (m5_last {r = r} {w = w} {l = l} {hand = hand} first last) committed known d n c' n' commit help before now = by last
  where
    longer : length (g.lists r.counter) ≡ suc (length l)
    longer = ap length first

    shorter : length (put g.lists r.counter l d) + on r.counter d 1 ≡ length (g.lists d)
    shorter = list_down length g.lists r.counter l d 1 (let one_more = longer in omega arith)

    by : (length hand + 1 ≡ r.units) ⊎ (length l ≡ 0) → g.numbers d ≤ n'
    by (inl all) =
        let each : on r.counter d (length (hand ++ w ∷ [])) ≡ on r.counter d r.units = ap (on r.counter d) (length_last w hand ∙ all) in
        let less = shorter in let few = before (omega arith) in omega arith
    by (inr none) = at (ℕ_discrete r.counter d)
      where
        at : Dec (r.counter ≡ d) → g.numbers d ≤ n'
        at (yes here) =
            let lock = on_here (m.root r.counter) 1 in
            let alone = known.alone r.counter (omega arith) in
            let commits_here = ap committed here in
            let emptied = ap (λ z. length (put g.lists r.counter l z)) (sym here) ∙ ap length (put_here g.lists r.counter l) in absurd (omega arith)
        at (no elsewhere) =
            let units = on_else r.counter d r.units elsewhere in
            let held = on_else r.counter d (length (hand ++ w ∷ [])) elsewhere in
            let one = on_else r.counter d 1 elsewhere in
            let less = shorter in let few = before (omega arith) in omega arith
rows (m6_none {r = r}) committed known d n c' n' commit help before now =
    let none = on_zero r.counter d in let few = before (omega arith) in omega arith
rows _ committed known d n c' n' commit help before now = let few = before (omega arith) in omega arith

-- a committed seat holds the lock of its root, and has raised the waiter word
committed_holds : (root : ℕ → ℕ) (c : ℕ) (p : Place) → (commits c p ≤ holds root (root c) p) × (commits c p ≤ raises root (root c) p)
committed_holds root c (Acquiring a A7) = by (ℕ_discrete a.counter c)
  where
    by : Dec (a.counter ≡ c) → (on a.counter c 1 ≤ on (root a.counter) (root c) 1) × (on a.counter c 1 ≤ on (root a.counter) (root c) 1)
    by (yes e) =
        let one = on_here (root c) 1 in let lock = ap (λ z. on (root z) (root c) 1) e in
        let here = on_here c 1 in let commit = ap (λ z. on z c 1) e in (omega arith, omega arith)
    by (no ne) = let elsewhere = on_else a.counter c 1 ne in (omega arith, omega arith)
committed_holds root c _ = (omega arith, omega arith)

posts : {p q : SeatState} {c x : ℕ} {w : WaitId} → Post p q c w x → (d : ℕ) → (commits d p.place ≡ 0) × (commits d q.place ≡ 0)
posts r9 d = (refl, refl)
posts r10 d = (refl, refl)
posts m7_last d = (refl, refl)
posts m7_more d = (refl, refl)

-- a grant helps as its release did
grant_helps : {p q : SeatState} {c x : ℕ} {w : WaitId} → Post p q c w x → (d grant : ℕ) (a : Acquire) (t : ℕ) (row : ParkedRow) (hand : List WaitId)
    → a.counter ≡ c → helps d p grant ≡ helps d q grant + helps_at d (Acquiring a (Parked t row)) hand x
grant_helps r9 d grant a t row hand e = refl
grant_helps r10 d grant a t row hand e = let there = ap (λ z. on z d 1) e in omega arith
grant_helps m7_last d grant a t row hand e = let there = ap (λ z. on z d 1) e in omega arith
grant_helps (m7_more {r = r} {l = l}) d grant a t row hand e =
    let there = ap (λ z. on z d 1) e in
    let both = on_add r.counter d (length l + 1) 1 in
    let all : on r.counter d (suc (suc (length l))) ≡ on r.counter d (length l + 1 + 1) = ap (on r.counter d) (omega arith) in
    let rest : on r.counter d (suc (length l)) ≡ on r.counter d (length l + 1) = ap (on r.counter d) (omega arith) in omega arith

pub units_kept : (m : Layout) (s t : SemaWorld) (i : ℕ) → i < m.seats → LocksOwned m s → SeatsKnown m s
    → WaitersRaised m s → WaitsPlaced m s → UnitsHelp m s → Step m s i t → UnitsHelp m t
units_kept m s t i in_range locks seats waiters placed units = by
  where
    committed : ℕ → ℕ
    committed c = total m.seats (λ k. commits c (s.seats k).place)

    known : Known m s.words (s.seats i).place (s.words.grants i) committed
    known =
        record {
          nobody = λ c within none.
              let below = lists_below m s (λ r. total m.seats (λ k. raises m.root r (s.seats k).place)) waiters c within in
              let each_raises = total_le m.seats (λ k. commits c (s.seats k).place) (λ k. raises m.root (m.root c) (s.seats k).place)
              (λ k k_in_range. (committed_holds m.root c (s.seats k).place).1) in
              let raised = waiters (m.root c) in omega arith;
          alone = λ c held.
              let each_holds = total_rest m.seats (λ k. commits c (s.seats k).place) (λ k. holds m.root (m.root c) (s.seats k).place) i in_range
              (λ k. (committed_holds m.root c (s.seats k).place).0) in
              let owned_once = locks (m.root c) in omega arith;
          within = (seats i).within;
          granted = (seats i).granted;
        }

    by : {u : SemaWorld} → Step m s i u → UnitsHelp m u
    by (own {q = q} {h = h} row) d now =
        rows row committed known d
        (total m.seats (λ k. helps d (s.seats k) (s.words.grants k)))
        (total m.seats (λ k. commits d (put s.seats i q k).place))
        (total m.seats (λ k. helps d (put s.seats i q k) (h.grants k)))
        (owned (λ k seat grant. commits d seat.place) m.seats s.seats s.words.grants h.grants i q in_range (grants_else row))
        (owned (λ k seat grant. helps d seat grant) m.seats s.seats s.words.grants h.grants i q in_range (grants_else row))
        (units d) now
    by (post {c = c} {x = x} {w = w} {q = q} grant) d now =
        let waiter = waiter_of_post m s i c x w in_range placed grant in
        let other = other_seat m s i c x w waiter grant in
        let all_commit = owned (λ k seat g. commits d seat.place) m.seats s.seats s.words.grants s.words.grants i q in_range (λ k ne. refl) in
        let all_help = posted (λ k seat g. helps d seat g) m.seats s.seats s.words.grants i w.seat x q in_range waiter.5 other in
        let none = posts grant d in
        let hand = (s.seats w.seat).hand in
        let as_before = grant_helps grant d (s.words.grants i) waiter.0 w.turn waiter.2 hand waiter.1 in
        let slept = ap₂ (λ p g. helps_at d p hand g) waiter.3 waiter.4 in
        let wakes = ap (λ p. helps_at d p hand x) waiter.3 in
        let few = units d (omega arith) in omega arith
