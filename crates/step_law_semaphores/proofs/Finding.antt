-- A release that has seen a wait still finds one when it takes it out: nobody else holds the lock.
use Rattle.std.proofs.Common.{◌≡◌, ℕ, ◌<◌, ◌≢◌, ◌⊎◌, List, length, refl, sym, ap, inl, inr, arith, IsTrue, subst, Some, ◌∙◌}
use native.Mathlib.Decide.{ℕ_discrete}
use Rattle.waiters.specs.declared.wait.WaitId.{WaitId}
use Rattle.step_table.specs.declared.effect.Effect.{Effect}
use Rattle.step_table.specs.declared.place.Place.{Place}
use Rattle.step_table.specs.declared.place.Acquire.{Acquire}
use Rattle.step_table.specs.declared.place.Place.TheVariants.{Releasing, ReleasingMany, Acquiring}
use Rattle.step_table.specs.declared.place.ReleaseRow.TheVariants.{R5}
use Rattle.step_table.specs.declared.place.ManyRow.TheVariants.{M5}
use Rattle.step_table.specs.World.{Layout, Words, SeatState, SemaWorld, put, insert_wait, wait_of, stands_in, without}
use Rattle.step_table.specs.Counting.{on, wait}
use Rattle.step_law_semaphores.specs.Lawful.{holds}
use Rattle.step_law_semaphores.specs.Invariant.{LocksOwned, Finds, WaitsPlaced}
use Rattle.step_table.proofs.Sums.{put_here, put_else, put_at, on_here, pair}
use Rattle.step_table.proofs.Withdrawing.{stands_has, wait_times}
use Rattle.step_law_semaphores.proofs.Lines.{Line, begin_acquire, a7, r4_some, r5, m4_some, m5_more, m5_last, Post, r9, r10, m7_last, m7_more, Step, own, post}
use Rattle.step_law_semaphores.proofs.Lines.{d2_queued, d3}
use Rattle.step_law_semaphores.proofs.Placing.{waiter_of}
use Rattle.step_table.specs.declared.place.AcquireRow.TheVariants.{Parked}
use Rattle.step_table.specs.declared.place.ParkedRow.TheVariants.{D3, D2}

-- a change to the list of d leaves the list of c, or is one of c's root
put_list : (root : ℕ → ℕ) (lists : ℕ → List WaitId) (d : ℕ) (l : List WaitId) (c : ℕ)
    → (put lists d l c ≡ lists c) ⊎ (0 < on (root d) (root c) 1)
put_list root lists d l c = by (ℕ_discrete c d)
  where
    by : Dec (c ≡ d) → (put lists d l c ≡ lists c) ⊎ (0 < on (root d) (root c) 1)
    by (yes e) = inr (let one = on_here (root d) 1 in let there = ap (λ z. on (root d) (root z) 1) e in omega arith)
    by (no ne) = inl (put_else lists d l c ne)

-- a row leaves the list of c, or its seat holds the lock of c's root
touches : {m : Layout} {i : ℕ} {g h : Words} {p q : SeatState} {e : Effect} → Line m i g p q h e
    → (c : ℕ) → (h.lists c ≡ g.lists c) ⊎ (0 < holds m.root (m.root c) p.place)
touches (begin_acquire _) c = inl refl
touches {m = m} {i = i} {g = g} (a7 {a = a} {t = t}) c = put_list m.root g.lists a.counter (insert_wait a.lifo (wait i t) (g.lists a.counter)) c
touches {m = m} {g = g} (r5 {r = r} {l = l} _) c = put_list m.root g.lists r.counter l c
touches {m = m} {g = g} (m5_more {r = r} {l = l} _ _ _) c = put_list m.root g.lists r.counter l c
touches {m = m} {g = g} (m5_last {r = r} {l = l} _ _) c = put_list m.root g.lists r.counter l c
touches {m = m} {i = i} {g = g} (d3 {a = a} {u = u} _) c = put_list m.root g.lists a.counter (without i (g.lists a.counter)) c
touches _ c = inl refl

-- what a seat needs to find, after a row of its own, and after one of another seat
finds_here : {m : Layout} {i : ℕ} {g h : Words} {p q : SeatState} {e : Effect} → Line m i g p q h e
    → ((a : Acquire) (u : ℕ) → p.place ≡ Acquiring a (Parked u D2) → IsTrue (stands_in i (g.lists a.counter))
    → wait_of i (g.lists a.counter) ≡ Some (wait i u))
    → Finds i h.lists q.place
finds_here (begin_acquire _) mine = tt
finds_here (r4_some some) mine = some
finds_here (m4_some some) mine = some
finds_here {g = g} (m5_more {r = r} {l = l} _ _ some) mine = let left = ap length (put_here g.lists r.counter l) in omega arith
finds_here (d2_queued {a = a} {u = u} _ stands) mine = mine a u refl stands
finds_here _ mine = tt

finds_elsewhere : (root : ℕ → ℕ) (k : ℕ) (before after : ℕ → List WaitId) (p : Place) → ((c : ℕ) → 0 < holds root (root c) p → after c ≡ before c)
    → Finds k before p → Finds k after p
finds_elsewhere root k before after (Releasing r R5) same finds =
    let one = on_here (root r.counter) 1 in let kept = ap length (same r.counter (omega arith)) in omega arith
finds_elsewhere root k before after (ReleasingMany r M5) same finds =
    let one = on_here (root r.counter) 1 in let kept = ap length (same r.counter (omega arith)) in omega arith
finds_elsewhere root k before after (Acquiring a (Parked u D3)) same finds =
    let one = on_here (root a.counter) 1 in
    subst (λ l. wait_of k l ≡ Some (wait k u)) (sym (same a.counter (omega arith))) finds
finds_elsewhere root k before after _ same finds = tt

posts : {p q : SeatState} {c x : ℕ} {w : WaitId} → Post p q c w x → (i : ℕ) (lists : ℕ → List WaitId) → Finds i lists q.place
posts r9 i lists = tt
posts r10 i lists = tt
posts m7_last i lists = tt
posts m7_more i lists = tt

pub finds_kept : (m : Layout) (s t : SemaWorld) (i : ℕ) → i < m.seats → LocksOwned m s → WaitsPlaced m s
    → ((k : ℕ) → k < m.seats → Finds k s.words.lists (s.seats k).place)
    → Step m s i t → (k : ℕ) → k < m.seats → Finds k t.words.lists (t.seats k).place
finds_kept m s t i in_range locks placed finds = by
  where
    -- the wait of a parked seat that stands in a list is the one with which it is parked
    own_wait : (a : Acquire) (u : ℕ) → (s.seats i).place ≡ Acquiring a (Parked u D2) → IsTrue (stands_in i (s.words.lists a.counter))
        → wait_of i (s.words.lists a.counter) ≡ Some (wait i u)
    own_wait a u at stands =
        let has = stands_has i (s.words.lists a.counter) stands in
        let w = has.0 in
        let queued = wait_times w (s.words.lists a.counter) (ap (λ k. wait_of k (s.words.lists a.counter)) has.2 ∙ has.1) in
        let v = waiter_of m s a.counter w placed (omega arith) in
        let place : Acquiring a (Parked u D2) ≡ Acquiring v.0 (Parked w.turn v.2) = sym at ∙ ap (λ k. (s.seats k).place) (sym has.2) ∙ v.3 in
        let turn : w.turn ≡ u = cc in
        let whole : w ≡ wait i u = λ k. record { seat = has.2 k; turn = turn k } in has.1 ∙ ap Some whole

    -- two seats cannot hold one lock
    alone : (k c : ℕ) → k < m.seats → k ≢ i → 0 < holds m.root (m.root c) (s.seats k).place → 0 < holds m.root (m.root c) (s.seats i).place → ⊥
    alone k c k_in_range ne k_holds i_holds =
        let both = pair m.seats (λ z. holds m.root (m.root c) (s.seats z).place) i k in_range k_in_range (λ e. ne (sym e)) in
        let most = locks (m.root c) in omega arith

    by : {u : SemaWorld} → Step m s i u → (k : ℕ) → k < m.seats → Finds k u.words.lists (u.seats k).place
    by (own {q = q} {h = h} row) k k_in_range =
        put_at (λ k seat. Finds k h.lists seat.place) s.seats i q k (finds_here row own_wait)
        (λ ne. finds_elsewhere m.root k s.words.lists h.lists (s.seats k).place (same ne) (finds k k_in_range))
      where
        same : k ≢ i → (c : ℕ) → 0 < holds m.root (m.root c) (s.seats k).place → h.lists c ≡ s.words.lists c
        same ne c k_holds = of_touch (touches row c)
          where
            of_touch : (h.lists c ≡ s.words.lists c) ⊎ (0 < holds m.root (m.root c) (s.seats i).place) → h.lists c ≡ s.words.lists c
            of_touch (inl e) = e
            of_touch (inr i_holds) = absurd (alone k c k_in_range ne k_holds i_holds)
    by (post {q = q} grant) k k_in_range =
        put_at (λ k seat. Finds k s.words.lists seat.place) s.seats i q k (posts grant i s.words.lists) (λ ne. finds k k_in_range)
