-- Only the holder of a lock changes its root's lists and waiter word, or gives the lock back.
use Rattle.std.proofs.Common.{◌≡◌, ◌≢◌, ◌⊎◌, ℕ, ◌+◌, ◌<◌, List, refl, sym, ap, ◌∙◌, inl, inr, arith}
use native.Mathlib.Decide.{ℕ_discrete}
use Rattle.waiters.specs.declared.wait.WaitId.{WaitId}
use Rattle.step_table.specs.declared.effect.Effect.{Effect}
use Rattle.step_table.specs.World.{Layout, Words, SeatState, SemaWorld, put, insert_wait}
use Rattle.step_table.specs.Steps as steps
use Rattle.step_table.specs.Counting.{on, wait}
use Rattle.step_law_semaphores.specs.Lawful.{holds}
use Rattle.step_law_semaphores.specs.Invariant.{IsInvariant}
use Rattle.step_table.proofs.Sums.{put_here, put_else, on_here}
use Rattle.step_law_semaphores.proofs.Lines.{Line, a3, a4, a7, a8, a9, r3, r5, r6_none, r6_plain, r6_handoff, m3, m5_more, m5_last}
use Rattle.step_law_semaphores.proofs.Lines.{m6_none, m6_some, Step, own, post, d2_queued, d2_gone, d3, d4, d5}
use Rattle.step_law_semaphores.specs.Holders.{LeavesRoot, LeavesOthers}
use Rattle.step_law_semaphores.proofs.Reaching.{cases}

-- no root but that of the lock that is held
not_here : (a r : ℕ) → on a r 1 ≡ 0 → r ≢ a
not_here a r none e = let one = on_here a 1 in let same = ap (λ x. on a x 1) e in omega arith

elsewhere : (root : ℕ → ℕ) (d r : ℕ) → on (root d) r 1 ≡ 0 → (c : ℕ) → root c ≡ r → c ≢ d
elsewhere root d r none c at e = not_here (root d) r none (sym at ∙ ap root e)

-- a lock stays or is taken
abbrev StaysOrTaken : (ℕ → ℕ) → (ℕ → ℕ) → ℕ → Type 0
StaysOrTaken before after r = (after r ≡ before r) ⊎ ((before r ≡ 0) × (after r ≡ 1))

taken : (locks : ℕ → ℕ) (x r : ℕ) → locks x ≡ 0 → StaysOrTaken locks (put locks x 1) r
taken locks x r free = by (ℕ_discrete r x)
  where
    by : Dec (r ≡ x) → StaysOrTaken locks (put locks x 1) r
    by (yes e) = inr (ap locks e ∙ free, ap (put locks x 1) e ∙ put_here locks x 1)
    by (no ne) = inl (put_else locks x 1 r ne)

-- a row takes a lock, or changes the waiter word, or a list, of the root x, or gives its lock
takes_lock : (m : Layout) (g : Words) (x r : ℕ) → g.locks x ≡ 0 → LeavesRoot m g (record g { locks = put g.locks x 1 }) r
takes_lock m g x r free = record { lists = λ c at. refl; waiters = refl; lock = taken g.locks x r free }

gives_lock : (m : Layout) (g : Words) (x r : ℕ) → on x r 1 ≡ 0 → LeavesRoot m g (record g { locks = put g.locks x 0 }) r
gives_lock m g x r free = record { lists = λ c at. refl; waiters = refl; lock = inl (put_else g.locks x 0 r (not_here x r free)) }

counts : (m : Layout) (g : Words) (x n r : ℕ) → on x r 1 ≡ 0 → LeavesRoot m g (record g { waiters = put g.waiters x n }) r
counts m g x n r free = record { lists = λ c at. refl; waiters = put_else g.waiters x n r (not_here x r free); lock = inl refl }

lets_out : (m : Layout) (g : Words) (d n : ℕ) (l : List WaitId) (r : ℕ) → on (m.root d) r 1 ≡ 0
    → LeavesRoot m g (record g { waiters = put g.waiters (m.root d) n; lists = put g.lists d l }) r
lets_out m g d n l r free = record {
  lists = λ c at. put_else g.lists d l c (elsewhere m.root d r free c at);
  waiters = put_else g.waiters (m.root d) n r (not_here (m.root d) r free);
  lock = inl refl;
}

left_line : {m : Layout} {i : ℕ} {g h : Words} {p q : SeatState} {e : Effect} → Line m i g p q h e
    → (r : ℕ) → holds m.root r p.place ≡ 0 → LeavesRoot m g h r
left_line {m = m} {g = g} (a3 {a = a} unheld) r free = takes_lock m g (m.root a.counter) r unheld
left_line {m = m} {g = g} (a4 {a = a}) r free = counts m g (m.root a.counter) (g.waiters (m.root a.counter) + 1) r free
left_line {m = m} {i = i} {g = g} (a7 {a = a} {t = t}) r free = record {
  lists = λ c at. put_else g.lists a.counter (insert_wait a.lifo (wait i t) (g.lists a.counter)) c
      (elsewhere m.root a.counter r free c at);
  waiters = refl;
  lock = inl (put_else g.locks (m.root a.counter) 0 r (not_here (m.root a.counter) r free));
}
left_line {m = m} {g = g} (a8 {a = a}) r free = counts m g (m.root a.counter) _ r free
left_line {m = m} {g = g} (a9 {a = a}) r free = gives_lock m g (m.root a.counter) r free
left_line {m = m} {g = g} (d2_queued {a = a} unheld _) r free = takes_lock m g (m.root a.counter) r unheld
left_line {m = m} {g = g} (d2_gone {a = a} unheld) r free = takes_lock m g (m.root a.counter) r unheld
left_line {m = m} {g = g} (d3 {a = a} _) r free = lets_out m g a.counter _ _ r free
left_line {m = m} {g = g} (d4 {a = a}) r free = gives_lock m g (m.root a.counter) r free
left_line {m = m} {g = g} (d5 {a = a}) r free = gives_lock m g (m.root a.counter) r free
left_line {m = m} {g = g} (r3 {r = q} unheld) r free = takes_lock m g (m.root q.counter) r unheld
left_line {m = m} {g = g} (r5 {r = q} {l = l} _) r free = lets_out m g q.counter _ l r free
left_line {m = m} {g = g} (r6_none {r = q}) r free = gives_lock m g (m.root q.counter) r free
left_line {m = m} {g = g} (r6_plain {r = q}) r free = gives_lock m g (m.root q.counter) r free
left_line {m = m} {g = g} (r6_handoff {r = q}) r free = gives_lock m g (m.root q.counter) r free
left_line {m = m} {g = g} (m3 {r = q} unheld) r free = takes_lock m g (m.root q.counter) r unheld
left_line {m = m} {g = g} (m5_more {r = q} {l = l} _ _ _) r free = lets_out m g q.counter _ l r free
left_line {m = m} {g = g} (m5_last {r = q} {l = l} _ _) r free = lets_out m g q.counter _ l r free
left_line {m = m} {g = g} (m6_none {r = q}) r free = gives_lock m g (m.root q.counter) r free
left_line {m = m} {g = g} (m6_some {r = q}) r free = gives_lock m g (m.root q.counter) r free
left_line _ r free = record { lists = λ c at. refl; waiters = refl; lock = inl refl }

left_by : {m : Layout} {s : SemaWorld} {i : ℕ} {t : SemaWorld} → Step m s i t → LeavesOthers m i s t
left_by (own line) r free = left_line line r free
left_by (post _) r free = record { lists = λ c at. refl; waiters = refl; lock = inl refl }

pub left : (m : Layout) (s t : SemaWorld) (i : ℕ) → i < m.seats → IsInvariant m s → steps.Step m s i t → LeavesOthers m i s t
left m s t i in_range inv step = left_by (cases in_range inv step)
