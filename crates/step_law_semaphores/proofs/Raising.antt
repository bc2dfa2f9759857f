-- A waiter word counts the waits of its root, and the seats that have raised it.
use Rattle.std.proofs.Common.{◌≡◌, ℕ, ◌+◌, ◌-◌, ◌<◌, ◌≤◌, List, ◌∷◌, length, refl, ap, arith, Some}
use Rattle.waiters.specs.declared.wait.WaitId.{WaitId}
use Rattle.step_table.specs.declared.effect.Effect.{Effect}
use Rattle.step_table.specs.declared.place.Place.{Place}
use Rattle.step_table.specs.World.{Layout, Words, SeatState, SemaWorld, put, insert_wait, without, wait_of}
use Rattle.step_table.specs.Counting.{on, total, wait, IsWithin}
use Rattle.step_law_semaphores.specs.Lawful.{raises, waits_of}
use Rattle.step_law_semaphores.specs.Invariant.{SeatsKnown, WaitersRaised}
use Rattle.step_table.proofs.Sums.{put_here, put_else, on_here, on_add, total_change, total_has, up, down, length_insert, owned}
use Rattle.step_table.proofs.Withdrawing.{length_without}
use Rattle.step_law_semaphores.proofs.Lines.{Line, begin_acquire, a4, a7, a8, r5, m5_more, m5_last, Post, r9, r10, m7_last, m7_more, Step, own, post, d3}

-- how many waits these lists hold for the root r, and that number after the list of c has changed
abbrev waits : Layout → ℕ → (ℕ → List WaitId) → ℕ
waits m r lists = total m.counters (λ c. on (m.root c) r (length (lists c)))

waits_change : (m : Layout) (r c : ℕ) (lists : ℕ → List WaitId) (l : List WaitId) → c < m.counters
    → waits m r (put lists c l) + on (m.root c) r (length (lists c)) ≡ waits m r lists + on (m.root c) r (length l)
waits_change m r c lists l h =
    let changed : waits m r (put lists c l) + on (m.root c) r (length (lists c)) ≡ waits m r lists + on (m.root c) r (length (put lists c l c))
    = total_change m.counters (λ d. on (m.root d) r (length (lists d))) (λ d. on (m.root d) r (length (put lists c l d))) c h
    (λ k ne. ap (λ x. on (m.root k) r (length x)) (put_else lists c l k ne)) in
    let here = ap (λ x. on (m.root c) r (length x)) (put_here lists c l) in omega arith

pub waits_up : (m : Layout) (r c : ℕ) (lists : ℕ → List WaitId) (l : List WaitId) → c < m.counters → length l ≡ length (lists c) + 1
    → waits m r (put lists c l) ≡ waits m r lists + on (m.root c) r 1
waits_up m r c lists l h e =
    let changed = waits_change m r c lists l h in
    let longer = ap (on (m.root c) r) e in
    let split = on_add (m.root c) r (length (lists c)) 1 in omega arith

waits_down : (m : Layout) (r c : ℕ) (lists : ℕ → List WaitId) (l : List WaitId) → c < m.counters → length l + 1 ≡ length (lists c)
    → waits m r (put lists c l) + on (m.root c) r 1 ≡ waits m r lists
waits_down m r c lists l h e =
    let changed = waits_change m r c lists l h in
    let shorter = ap (on (m.root c) r) e in
    let split = on_add (m.root c) r (length l) 1 in omega arith

-- a waiter word is at least what its seat has raised, and at least the length of each of its lists
pub record Raised (raised : ℕ → ℕ) (m : Layout) (g : Words) (p : Place) : Type 0 where
  pub own : (r : ℕ) → raised r ≤ g.waiters r
  pub lists : (c : ℕ) → c < m.counters → length (g.lists c) ≤ g.waiters (m.root c)
  pub within : IsWithin m.counters p

-- the first wait of the list of c has left it
pub one_less : {raised : ℕ → ℕ} {m : Layout} {g : Words} {p : Place} → Raised raised m g p → (c : ℕ) (w : WaitId) (l : List WaitId)
    → c < m.counters → g.lists c ≡ w ∷ l
    → (r : ℕ) → put g.waiters (m.root c) (g.waiters (m.root c) - 1) r + waits m r g.lists ≡ g.waiters r + waits m r (put g.lists c l)
one_less {m = m} {g = g} known c w l within first r =
    let x = m.root c in
    let longer = ap length first in
    let some = known.lists c within in
    let lowered = down g.waiters x (g.waiters x - 1) r (omega arith) in
    let left = waits_down m r c g.lists l within (omega arith) in omega arith

-- a wait was taken out of the list of c, wherever it stood
pub one_out : {raised : ℕ → ℕ} {m : Layout} {g : Words} {p : Place} → Raised raised m g p → (c : ℕ) (w : WaitId)
    → c < m.counters → wait_of w.seat (g.lists c) ≡ Some w
    → (r : ℕ) → put g.waiters (m.root c) (g.waiters (m.root c) - 1) r + waits m r g.lists
    ≡ g.waiters r + waits m r (put g.lists c (without w.seat (g.lists c)))
one_out {m = m} {g = g} known c w within stands r =
    let x = m.root c in
    let l = g.lists c in
    let shorter = length_without w l stands in
    let some = known.lists c within in
    let lowered = down g.waiters x (g.waiters x - 1) r (omega arith) in
    let left = waits_down m r c g.lists (without w.seat l) within shorter in omega arith

pub rows : {m : Layout} {i : ℕ} {g h : Words} {p q : SeatState} {e : Effect} → Line m i g p q h e → Raised (λ r. raises m.root r p.place) m g p.place
    → (r : ℕ) → h.waiters r + waits_of m r g + raises m.root r p.place ≡ g.waiters r + waits_of m r h + raises m.root r q.place
rows (begin_acquire _) known r = refl
rows {m = m} {g = g} (a4 {a = a}) known r = let x = m.root a.counter in let raised = up g.waiters x (g.waiters x + 1) r refl in omega arith
rows {m = m} {i = i} {g = g} (a7 {a = a} {t = t}) known r =
    let l = g.lists a.counter in
    let queued = waits_up m r a.counter g.lists (insert_wait a.lifo (wait i t) l) known.within (length_insert a.lifo (wait i t) l) in omega arith
rows {m = m} {g = g} (a8 {a = a}) known r =
    let x = m.root a.counter in
    let some = known.own x in let one = on_here x 1 in
    let lowered = down g.waiters x (g.waiters x - 1) r (omega arith) in omega arith
rows {m = m} {i = i} {g = g} (d3 {a = a} {u = u} stands) known r = let left = one_out known a.counter (wait i u) known.within stands r in omega arith
rows (r5 {r = q} {w = w} {l = l} first) known r = let left = one_less known q.counter w l known.within first r in omega arith
rows (m5_more {r = q} {w = w} {l = l} first _ _) known r = let left = one_less known q.counter w l known.within.0 first r in omega arith
rows (m5_last {r = q} {w = w} {l = l} first _) known r = let left = one_less known q.counter w l known.within.0 first r in omega arith
rows _ known r = refl

posts : {p q : SeatState} {c x : ℕ} {w : WaitId} → Post p q c w x → (root : ℕ → ℕ) (r : ℕ)
    → (raises root r p.place ≡ 0) × (raises root r q.place ≡ 0)
posts r9 root r = (refl, refl)
posts r10 root r = (refl, refl)
posts m7_last root r = (refl, refl)
posts m7_more root r = (refl, refl)

-- a list is no longer than the waiter word of its root
pub lists_below : (m : Layout) (s : SemaWorld) (raised : ℕ → ℕ) → ((r : ℕ) → s.words.waiters r ≡ waits_of m r s.words + raised r) → (c : ℕ)
    → c < m.counters → length (s.words.lists c) ≤ s.words.waiters (m.root c)
lists_below m s raised waiters c h =
    let all = total_has m.counters (λ d. on (m.root d) (m.root c) (length (s.words.lists d))) c h in
    let here = on_here (m.root c) (length (s.words.lists c)) in
    let counted = waiters (m.root c) in omega arith

pub raised_kept : (m : Layout) (s t : SemaWorld) (i : ℕ) → i < m.seats → SeatsKnown m s
    → WaitersRaised m s → Step m s i t → WaitersRaised m t
raised_kept m s t i in_range seats waiters = by
  where
    known : Raised (λ r. raises m.root r (s.seats i).place) m s.words (s.seats i).place
    known =
        record {
          own = λ r. let all = total_has m.seats (λ k. raises m.root r (s.seats k).place) i in_range in let counted = waiters r in omega arith;
          lists = lists_below m s (λ r. total m.seats (λ k. raises m.root r (s.seats k).place)) waiters;
          within = (seats i).within;
        }

    by : {u : SemaWorld} → Step m s i u → WaitersRaised m u
    by (own {q = q} row) r =
        let balance = rows row known r in
        let all = owned (λ k seat grant. raises m.root r seat.place) m.seats s.seats s.words.grants s.words.grants i q in_range (λ k ne. refl) in
        let before = waiters r in omega arith
    by (post {q = q} grant) r =
        let none = posts grant m.root r in
        let all = owned (λ k seat grant. raises m.root r seat.place) m.seats s.seats s.words.grants s.words.grants i q in_range (λ k ne. refl) in
        let before = waiters r in omega arith
