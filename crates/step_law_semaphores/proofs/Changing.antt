-- How a step changes words: a waiter word by one, a lock between 0 and 1, a grant word from 0 or of its own, as the event says.
use Rattle.std.proofs.Common.{◌≡◌, ◌≢◌, ◌⊎◌, ℕ, ◌+◌, ◌-◌, ◌<◌, List, refl, inl, inr, arith}
use native.Mathlib.Decide.{ℕ_discrete}
use Rattle.waiters.specs.declared.wait.WaitId.{WaitId}
use Rattle.step_table.specs.declared.effect.Effect.{Effect}
use Rattle.step_table.specs.declared.word.Word.TheVariants.{Lock, Waiters}
use Rattle.step_table.specs.World.{Layout, Words, SeatState, SemaWorld, put}
use Rattle.step_table.specs.EventOf.{raise, lower, take_lock, give_lock}
use Rattle.step_table.specs.Event.{Event, Next}
use Rattle.step_table.specs.Table.{table}
use Rattle.step_table.specs.Steps.{event_of}
use Rattle.step_table.specs.Steps as steps
use Rattle.step_law_semaphores.specs.Invariant.{IsInvariant}
use Rattle.step_table.proofs.Sums.{put_here, put_else}
use Rattle.step_law_semaphores.proofs.Lines.{Line, a3, a4, a7, a8, a9, p_one, p_two, r3, r5, r6_none, r6_plain, r6_handoff, m3, m5_more, m5_last}
use Rattle.step_law_semaphores.proofs.Lines.{m6_none, m6_some, Post, r9, r10, m7_last, m7_more, Step, own, post, d2_queued, d2_gone, d3, d4, d5}
use Rattle.step_law_semaphores.proofs.Placing.{Waiter, waiter_of_post, other_seat}
use Rattle.step_law_semaphores.specs.Holders.{IsRaising, IsLowering, IsLocking, IsGiving, IsGranting, IsReceiving}
use Rattle.step_law_semaphores.specs.Holders.{ChangesWaiters, ChangesLock, ChangesGrant, ChangesWords}
use Rattle.step_law_semaphores.proofs.Reaching.{cases}
use Rattle.step_law_semaphores.proofs.Holding.{lowered, given}

-- what holds of each number before and after, where the one at x becomes n
put_case : (Has : ℕ → ℕ → ℕ → Type 0) (f : ℕ → ℕ) (x n : ℕ) → Has x (f x) n → ((k : ℕ) → Has k (f k) (f k))
    → (k : ℕ) → Has k (f k) (put f x n k)
put_case Has f x n here else k = by (ℕ_discrete k x)
  where
    by : Dec (k ≡ x) → Has k (f k) (put f x n k)
    by (yes e) = rw e (rw (put_here f x n) here)
    by (no ne) = rw (put_else f x n k ne) (else k)

-- the event is this, whatever it finds
abbrev Is : Event → (Next → Event) → Type 0
Is e event = e ≡ event (e.leads 0)

-- by a row of seat i, which stands as p
record Changes (m : Layout) (i : ℕ) (g h : Words) (p : SeatState) : Type 0 where
  pub waiters : (r : ℕ) → ChangesWaiters m.root (table i p g.lists) g h r
  pub locks : (r : ℕ) → ChangesLock m.root (table i p g.lists) g h r
  pub grants : (k : ℕ) → ChangesGrant i (table i p g.lists) g h k

-- a row that takes or gives a lock, or raises or lowers a waiter word, and makes of the lists what it will
module _ (m : Layout) (i : ℕ) (g : Words) (p : SeatState) (c : ℕ) (lists : ℕ → List WaitId) where
  abbrev event : Event
  event = table i p g.lists

  abbrev LockFrom : ℕ → ℕ → ℕ → Type 0
  LockFrom r before after =
      (after ≡ before)
      ⊎ ((IsLocking m.root r event × (before ≡ 0) × (after ≡ 1)) ⊎ (IsGiving m.root r event × (before ≡ 1) × (after ≡ 0)))

  abbrev WaitersFrom : ℕ → ℕ → ℕ → Type 0
  WaitersFrom r before after =
      (after ≡ before)
      ⊎ ((IsRaising m.root r event × (after ≡ before + 1)) ⊎ (IsLowering m.root r event × (after + 1 ≡ before)))

  takes : Is event (take_lock (Lock c)) → g.locks (m.root c) ≡ 0 → Changes m i g (record g { locks = put g.locks (m.root c) 1 }) p
  takes is free = record {
    waiters = λ r. inl refl;
    locks = put_case LockFrom g.locks (m.root c) 1 (inr (inl ((c, event.leads 0, refl, is), free, refl))) (λ r. inl refl);
    grants = λ k. inl refl;
  }

  gives : Is event (give_lock (Lock c)) → ((r : ℕ) → IsGiving m.root r event → g.locks r ≡ 1)
      → Changes m i g (record g { locks = put g.locks (m.root c) 0; lists = lists }) p
  gives is held =
      let giving : IsGiving m.root (m.root c) event = (c, event.leads 0, refl, is) in record {
        waiters = λ r. inl refl;
        locks = put_case LockFrom g.locks (m.root c) 0 (inr (inr (giving, held (m.root c) giving, refl))) (λ r. inl refl);
        grants = λ k. inl refl;
      }

  raises : Is event (raise (Waiters c) 1) → Changes m i g (record g { waiters = put g.waiters (m.root c) (g.waiters (m.root c) + 1) }) p
  raises is = record {
    waiters = put_case WaitersFrom g.waiters (m.root c) (g.waiters (m.root c) + 1)
        (inr (inl ((c, event.leads 0, refl, is), refl))) (λ r. inl refl);
    locks = λ r. inl refl;
    grants = λ k. inl refl;
  }

  lowers : Is event (lower (Waiters c) 1) → ((r : ℕ) → IsLowering m.root r event → 0 < g.waiters r)
      → Changes m i g (record g { waiters = put g.waiters (m.root c) (g.waiters (m.root c) - 1); lists = lists }) p
  lowers is above =
      let lowering : IsLowering m.root (m.root c) event = (c, event.leads 0, refl, is) in
      let some = above (m.root c) lowering in record {
        waiters = put_case WaitersFrom g.waiters (m.root c) (g.waiters (m.root c) - 1)
            (inr (inr (lowering, omega arith))) (λ r. inl refl);
        locks = λ r. inl refl;
        grants = λ k. inl refl;
      }

-- a grant word before and after
abbrev GrantFrom : ℕ → Event → ℕ → ℕ → ℕ → Type 0
GrantFrom i e k before after =
    (after ≡ before)
    ⊎ ((IsReceiving k e × (k ≡ i) × (0 < before) × (after ≡ 0)) ⊎ (IsGranting k after e × (k ≢ i) × (before ≡ 0) × (0 < after)))

wakes : (m : Layout) (i : ℕ) (g : Words) (p : SeatState) → IsReceiving i (table i p g.lists) → 0 < g.grants i
    → Changes m i g (record g { grants = put g.grants i 0 }) p
wakes m i g p is some = record {
  waiters = λ r. inl refl;
  locks = λ r. inl refl;
  grants = put_case (GrantFrom i (table i p g.lists)) g.grants i 0 (inr (inl (is, refl, some, refl))) (λ k. inl refl);
}

changes_line : {m : Layout} {i : ℕ} {g h : Words} {p q : SeatState} {e : Effect} → Line m i g p q h e
    → ((r : ℕ) → IsLowering m.root r (table i p g.lists) → 0 < g.waiters r)
    → ((r : ℕ) → IsGiving m.root r (table i p g.lists) → g.locks r ≡ 1) → Changes m i g h p
changes_line {m = m} {i = i} {g = g} {p = p} (a3 {a = a} free) above held = takes m i g p a.counter g.lists refl free
changes_line {m = m} {i = i} {g = g} {p = p} (d2_queued {a = a} free _) above held = takes m i g p a.counter g.lists refl free
changes_line {m = m} {i = i} {g = g} {p = p} (d2_gone {a = a} free) above held = takes m i g p a.counter g.lists refl free
changes_line {m = m} {i = i} {g = g} {h = h} {p = p} (d3 {a = a} _) above held = lowers m i g p a.counter h.lists refl above
changes_line {m = m} {i = i} {g = g} {p = p} (d4 {a = a}) above held = gives m i g p a.counter g.lists refl held
changes_line {m = m} {i = i} {g = g} {p = p} (d5 {a = a}) above held = gives m i g p a.counter g.lists refl held
changes_line {m = m} {i = i} {g = g} {p = p} (r3 {r = r} free) above held = takes m i g p r.counter g.lists refl free
changes_line {m = m} {i = i} {g = g} {p = p} (m3 {r = r} free) above held = takes m i g p r.counter g.lists refl free
changes_line {m = m} {i = i} {g = g} {p = p} (a4 {a = a}) above held = raises m i g p a.counter g.lists refl
changes_line {m = m} {i = i} {g = g} {h = h} {p = p} (a7 {a = a}) above held = gives m i g p a.counter h.lists refl held
changes_line {m = m} {i = i} {g = g} {p = p} (a9 {a = a}) above held = gives m i g p a.counter g.lists refl held
changes_line {m = m} {i = i} {g = g} {p = p} (r6_none {r = r}) above held = gives m i g p r.counter g.lists refl held
changes_line {m = m} {i = i} {g = g} {p = p} (r6_plain {r = r}) above held = gives m i g p r.counter g.lists refl held
changes_line {m = m} {i = i} {g = g} {p = p} (r6_handoff {r = r}) above held = gives m i g p r.counter g.lists refl held
changes_line {m = m} {i = i} {g = g} {p = p} (m6_none {r = r}) above held = gives m i g p r.counter g.lists refl held
changes_line {m = m} {i = i} {g = g} {p = p} (m6_some {r = r}) above held = gives m i g p r.counter g.lists refl held
changes_line {m = m} {i = i} {g = g} {p = p} (a8 {a = a}) above held = lowers m i g p a.counter g.lists refl above
changes_line {m = m} {i = i} {g = g} {h = h} {p = p} (r5 {r = r} _) above held = lowers m i g p r.counter h.lists refl above
changes_line {m = m} {i = i} {g = g} {h = h} {p = p} (m5_more {r = r} _ _ _) above held = lowers m i g p r.counter h.lists refl above
changes_line {m = m} {i = i} {g = g} {h = h} {p = p} (m5_last {r = r} _ _) above held = lowers m i g p r.counter h.lists refl above
changes_line {m = m} {i = i} {g = g} {p = p} (p_one one) above held = wakes m i g p ((table i p g.lists).leads, refl) (omega arith)
changes_line {m = m} {i = i} {g = g} {p = p} (p_two two) above held = wakes m i g p ((table i p g.lists).leads, refl) (omega arith)
changes_line _ above held = record { waiters = λ r. inl refl; locks = λ r. inl refl; grants = λ k. inl refl }

granting : {p q : SeatState} {c x : ℕ} {w : WaitId} → Post p q c w x → (i : ℕ) (lists : ℕ → List WaitId)
    → IsGranting w.seat x (table i p lists) × (0 < x)
granting {p = p} r9 i lists = (((table i p lists).leads 0, refl), omega arith)
granting {p = p} r10 i lists = (((table i p lists).leads 0, refl), omega arith)
granting {p = p} m7_last i lists = (((table i p lists).leads 0, refl), omega arith)
granting {p = p} m7_more i lists = (((table i p lists).leads 0, refl), omega arith)

changed_by : {m : Layout} {s : SemaWorld} {i : ℕ} {t : SemaWorld} → i < m.seats → IsInvariant m s → Step m s i t → ChangesWords m i s t
changed_by {m = m} {s = s} {i = i} h inv (own line) =
    let all = changes_line line (λ r. lowered m s inv i r h) (λ r is. (given m s inv i r h is).1) in
    record { waiters = all.waiters; locks = all.locks; grants = all.grants }
changed_by {m = m} {s = s} {i = i} h inv (post {c = c} {x = x} {w = w} row) =
    let v : Waiter m c w s = waiter_of_post m s i c x w h inv.placed row in
    let is = granting row i s.words.lists in record {
      waiters = λ r. inl refl;
      locks = λ r. inl refl;
      grants = put_case (GrantFrom i (event_of s i)) s.words.grants w.seat x
          (inr (inr (is.0, other_seat m s i c x w v row, v.4, is.1))) (λ k. inl refl);
    }

pub changed : (m : Layout) (s t : SemaWorld) (i : ℕ) → i < m.seats → IsInvariant m s → steps.Step m s i t → ChangesWords m i s t
changed m s t i h inv step = changed_by h inv (cases h inv step)
