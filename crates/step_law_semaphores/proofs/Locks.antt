-- A lock word counts the seats that hold the lock, and there is at most one.
use Rattle.std.proofs.Common.{◌≡◌, ℕ, ◌+◌, ◌<◌, ◌≤◌, refl, arith}
use Rattle.waiters.specs.declared.wait.WaitId.{WaitId}
use Rattle.step_table.specs.declared.effect.Effect.{Effect}
use Rattle.step_table.specs.World.{Layout, Words, SeatState, SemaWorld, put}
use Rattle.step_table.specs.Counting.{on}
use Rattle.step_law_semaphores.specs.Lawful.{holds}
use Rattle.step_law_semaphores.specs.Invariant.{LocksOwned}
use Rattle.step_table.proofs.Sums.{on_here, owned, total_has, put_most, up, down}
use Rattle.step_law_semaphores.proofs.Lines.{Line, begin_acquire, a3, a7, a9, r3, r6_none, r6_plain, r6_handoff, m3, m6_none, m6_some, Post, r9, r10, m7_last}
use Rattle.step_law_semaphores.proofs.Lines.{m7_more, Step, own, post, d2_queued, d2_gone, d4, d5}

-- the locks that a seat holds are held, and each is held at most once
abbrev Held : Layout → Words → SeatState → Type 0
Held m g p = (r : ℕ) → (holds m.root r p.place ≤ g.locks r) × (g.locks r ≤ 1)

-- the lock words go as what the seat holds
abbrev Moved : Layout → Words → SeatState → SeatState → (ℕ → ℕ) → Type 0
Moved m g p q locks = (r : ℕ) → (locks r + holds m.root r p.place ≡ g.locks r + holds m.root r q.place) × (locks r ≤ 1)

-- the lock x is taken, or given back by its holder
taken : (locks : ℕ → ℕ) (x : ℕ) → locks x ≡ 0 → ((r : ℕ) → (0 ≤ locks r) × (locks r ≤ 1))
    → (r : ℕ) → (put locks x 1 r + 0 ≡ locks r + on x r 1) × (put locks x 1 r ≤ 1)
taken locks x free held r =
    let more = up locks x 1 r (omega arith) in (omega arith, put_most locks x 1 r 1 (omega arith) (held r).1)

given : (locks : ℕ → ℕ) (x : ℕ) → ((r : ℕ) → (on x r 1 ≤ locks r) × (locks r ≤ 1))
    → (r : ℕ) → (put locks x 0 r + on x r 1 ≡ locks r + 0) × (put locks x 0 r ≤ 1)
given locks x held r =
    let one = on_here x 1 in let own = held x in
    let less = down locks x 0 r (omega arith) in (omega arith, put_most locks x 0 r 1 (omega arith) (held r).1)

rows : {m : Layout} {i : ℕ} {g h : Words} {p q : SeatState} {e : Effect} → Line m i g p q h e → Held m g p → Moved m g p q h.locks
rows (begin_acquire _) held r = (refl, (held r).1)
rows {m = m} {g = g} (a3 {a = a} free) held r = taken g.locks (m.root a.counter) free held r
rows {m = m} {g = g} (a7 {a = a}) held r = given g.locks (m.root a.counter) held r
rows {m = m} {g = g} (a9 {a = a}) held r = given g.locks (m.root a.counter) held r
rows {m = m} {g = g} (d2_queued {a = a} free _) held r = taken g.locks (m.root a.counter) free held r
rows {m = m} {g = g} (d2_gone {a = a} free) held r = taken g.locks (m.root a.counter) free held r
rows {m = m} {g = g} (d4 {a = a}) held r = given g.locks (m.root a.counter) held r
rows {m = m} {g = g} (d5 {a = a}) held r = given g.locks (m.root a.counter) held r
rows {m = m} {g = g} (r3 {r = q} free) held r = taken g.locks (m.root q.counter) free held r
rows {m = m} {g = g} (r6_none {r = q}) held r = given g.locks (m.root q.counter) held r
rows {m = m} {g = g} (r6_plain {r = q}) held r = given g.locks (m.root q.counter) held r
rows {m = m} {g = g} (r6_handoff {r = q}) held r = given g.locks (m.root q.counter) held r
rows {m = m} {g = g} (m3 {r = q} free) held r = taken g.locks (m.root q.counter) free held r
rows {m = m} {g = g} (m6_none {r = q}) held r = given g.locks (m.root q.counter) held r
rows {m = m} {g = g} (m6_some {r = q}) held r = given g.locks (m.root q.counter) held r
rows _ held r = (refl, (held r).1)

posts : {p q : SeatState} {c x : ℕ} {w : WaitId} → Post p q c w x → (root : ℕ → ℕ) (r : ℕ)
    → (holds root r p.place ≡ 0) × (holds root r q.place ≡ 0)
posts r9 root r = (refl, refl)
posts r10 root r = (refl, refl)
posts m7_last root r = (refl, refl)
posts m7_more root r = (refl, refl)

pub locks_kept : (m : Layout) (s t : SemaWorld) (i : ℕ) → i < m.seats → LocksOwned m s → Step m s i t → LocksOwned m t
locks_kept m s t i in_range locks = by
  where
    held : Held m s.words (s.seats i)
    held r =
        let all = total_has m.seats (λ k. holds m.root r (s.seats k).place) i in_range in
        let before = locks r in (omega arith, before.1)

    by : {u : SemaWorld} → Step m s i u → LocksOwned m u
    by (own {q = q} row) r =
        let moved = rows row held r in
        let all = owned (λ k seat grant. holds m.root r seat.place) m.seats s.seats s.words.grants s.words.grants i q in_range (λ k ne. refl) in
        let before = locks r in (omega arith, moved.1)
    by (post {q = q} grant) r =
        let none = posts grant m.root r in
        let all = owned (λ k seat grant. holds m.root r seat.place) m.seats s.seats s.words.grants s.words.grants i q in_range (λ k ne. refl) in
        let before = locks r in (omega arith, before.1)
