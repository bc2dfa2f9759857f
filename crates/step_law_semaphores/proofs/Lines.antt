-- The table's outcomes one by one: each has a constructor, with what the seat found. The laws go by these cases.
use Rattle.std.proofs.Common.{◌≡◌, ℕ, suc, ◌+◌, ◌-◌, ◌<◌, ◌≢◌, ◌⊎◌, Bool, ◌≤◌, IsTrue, List, [], ◌∷◌, ◌++◌, length, Some}
use Rattle.waiters.specs.declared.wait.WaitId.{WaitId}
use Rattle.step_table.specs.declared.entry.Entry.TheVariants.{Add, AddMany, Take, Queue, Leave, Withdraw}
use Rattle.step_table.specs.declared.effect.Effect.{Effect}
use Rattle.step_table.specs.declared.effect.Effect.TheVariants.{Nothing, Tells}
use Rattle.step_table.specs.declared.place.Acquire.{Acquire}
use Rattle.step_table.specs.declared.place.AcquireRow.{AcquireRow}
use Rattle.step_table.specs.declared.place.AcquireRow.TheVariants.{A1, A2, A3, A4, A5, A6, A7, A8, A9, A10, A11, D4, Parked}
use Rattle.step_table.specs.declared.place.ParkedRow.TheVariants.{P, D2, D3, D5}
use Rattle.step_table.specs.declared.place.Release.{Release}
use Rattle.step_table.specs.declared.place.ReleaseRow.{ReleaseRow}
use Rattle.step_table.specs.declared.place.ReleaseRow.TheVariants.{R1, R2, R3, R4, R5, R6, R7, R8, R9, R10}
use Rattle.step_table.specs.declared.place.ReleaseMany.{ReleaseMany}
use Rattle.step_table.specs.declared.place.ManyRow.{ManyRow}
use Rattle.step_table.specs.declared.place.ManyRow.TheVariants.{M1, M2, M3, M4, M5, M6, M7}
use Rattle.step_table.specs.declared.place.Place.{Place}
use Rattle.step_table.specs.declared.place.Place.TheVariants.{Rest, Acquiring, Releasing, ReleasingMany}
use Rattle.step_table.specs.World.{Layout, Words, SeatState, SemaWorld, put, insert_wait, wait_of, stands_in, without, journal_after}
use Rattle.step_table.specs.Counting.{wait}

abbrev pub standing : Place → ℕ → List WaitId → SeatState
standing place turn hand = record { place = place; turn = turn; hand = hand }

abbrev pub resting : ℕ → SeatState
resting t = standing Rest t []

abbrev pub acquiring : Acquire → AcquireRow → ℕ → SeatState
acquiring a row t = standing (Acquiring a row) t []

abbrev pub releasing : Release → ReleaseRow → ℕ → List WaitId → SeatState
releasing r row t hand = standing (Releasing r row) t hand

abbrev pub releasing_many : ReleaseMany → ManyRow → ℕ → List WaitId → SeatState
releasing_many r row t hand = standing (ReleasingMany r row) t hand

-- the steps that store no other seat's grant word: the seat, the words before, the seat before and after, the words after, the effect
pub data Line (m : Layout) (i : ℕ) (g : Words) : SeatState → SeatState → Words → Effect → Type 0 where
  begin_acquire : {a : Acquire} {t : ℕ} → a.counter < m.counters → Line m i g (resting t) (acquiring a A1 t) g Nothing
  begin_enter : {a : Acquire} {t : ℕ} → a.counter < m.counters → Line m i g (resting t) (acquiring a A3 t) g Nothing
  begin_release : {r : Release} {t : ℕ} → r.counter < m.counters → Line m i g (resting t) (releasing r R1 t []) g Nothing
  end_first : {a : Acquire} {t : ℕ} → Line m i g (acquiring a A1 t) (resting t) g Nothing
  decides : {r : Release} {b : Bool} {t : ℕ} → Line m i g (releasing r R3 t []) (releasing (record r { handoff = b }) R3 t []) g Nothing
  end_lock : {a : Acquire} {t : ℕ} → Line m i g (acquiring a A3 t) (resting t) g Nothing
  begins_leaving : {a : Acquire} {u t : ℕ} → Line m i g (acquiring a (Parked u P) t) (acquiring a (Parked u D2) t) g Nothing
  sleeps_on : {a : Acquire} {u t : ℕ} → Line m i g (acquiring a (Parked u D2) t) (acquiring a (Parked u P) t) g Nothing
  stays_queued : {a : Acquire} {u t : ℕ} → Line m i g (acquiring a (Parked u D3) t) (acquiring a (Parked u D5) t) g Nothing
  a1_zero : {a : Acquire} {t : ℕ} → g.numbers a.counter ≡ 0 → Line m i g (acquiring a A1 t) (acquiring a A3 t) g Nothing
  a1_some : {a : Acquire} {t n : ℕ} → g.numbers a.counter ≡ suc n → Line m i g (acquiring a A1 t) (acquiring a (A2 n) t) g Nothing
  a2_won : {a : Acquire} {t n : ℕ} → g.numbers a.counter ≡ suc n
      → Line m i g (acquiring a (A2 n) t) (resting t) (record g { numbers = put g.numbers a.counter n }) (Tells (Take a.counter i))
  a2_lost : {a : Acquire} {t n : ℕ} → g.numbers a.counter ≢ suc n → Line m i g (acquiring a (A2 n) t) (acquiring a A1 t) g Nothing
  a3 : {a : Acquire} {t : ℕ} → g.locks (m.root a.counter) ≡ 0
      → Line m i g (acquiring a A3 t) (acquiring a A4 t) (record g { locks = put g.locks (m.root a.counter) 1 }) Nothing
  a4 : {a : Acquire} {t : ℕ}
      → Line m i g (acquiring a A4 t) (acquiring a A5 t)
      (record g { waiters = put g.waiters (m.root a.counter) (g.waiters (m.root a.counter) + 1) }) Nothing
  a5_zero : {a : Acquire} {t : ℕ} → g.numbers a.counter ≡ 0 → Line m i g (acquiring a A5 t) (acquiring a A7 t) g Nothing
  a5_some : {a : Acquire} {t n : ℕ} → g.numbers a.counter ≡ suc n → Line m i g (acquiring a A5 t) (acquiring a (A6 n) t) g Nothing
  a6_won : {a : Acquire} {t n : ℕ} → g.numbers a.counter ≡ suc n
      → Line m i g (acquiring a (A6 n) t) (acquiring a A8 t) (record g { numbers = put g.numbers a.counter n }) (Tells (Take a.counter i))
  a6_lost : {a : Acquire} {t n : ℕ} → g.numbers a.counter ≢ suc n → Line m i g (acquiring a (A6 n) t) (acquiring a A5 t) g Nothing
  a7 : {a : Acquire} {t : ℕ}
      → Line m i g (acquiring a A7 t) (acquiring a (Parked t P) (t + 1))
      (record g { locks = put g.locks (m.root a.counter) 0; lists = put g.lists a.counter (insert_wait a.lifo (wait i t) (g.lists a.counter)) })
      (Tells (Queue a.counter (wait i t) a.lifo))
  a8 : {a : Acquire} {t : ℕ}
      → Line m i g (acquiring a A8 t) (acquiring a A9 t)
      (record g { waiters = put g.waiters (m.root a.counter) (g.waiters (m.root a.counter) - 1) }) Nothing
  a9 : {a : Acquire} {t : ℕ} → Line m i g (acquiring a A9 t) (resting t) (record g { locks = put g.locks (m.root a.counter) 0 }) Nothing
  p_one : {a : Acquire} {u t : ℕ} → g.grants i ≡ 1
      → Line m i g (acquiring a (Parked u P) t) (acquiring a A10 t) (record g { grants = put g.grants i 0 }) Nothing
  p_two : {a : Acquire} {u t : ℕ} → g.grants i ≡ 2
      → Line m i g (acquiring a (Parked u P) t) (resting t) (record g { grants = put g.grants i 0 }) Nothing
  d2_queued : {a : Acquire} {u t : ℕ} → g.locks (m.root a.counter) ≡ 0 → IsTrue (stands_in i (g.lists a.counter))
      → Line m i g (acquiring a (Parked u D2) t) (acquiring a (Parked u D3) t) (record g { locks = put g.locks (m.root a.counter) 1 }) Nothing
  d2_gone : {a : Acquire} {u t : ℕ} → g.locks (m.root a.counter) ≡ 0
      → Line m i g (acquiring a (Parked u D2) t) (acquiring a (Parked u D5) t) (record g { locks = put g.locks (m.root a.counter) 1 }) Nothing
  d3 : {a : Acquire} {u t : ℕ} → wait_of i (g.lists a.counter) ≡ Some (wait i u)
      → Line m i g (acquiring a (Parked u D3) t) (acquiring a D4 t)
      (record g {
        waiters = put g.waiters (m.root a.counter) (g.waiters (m.root a.counter) - 1);
        lists = put g.lists a.counter (without i (g.lists a.counter));
      })
      (Tells (Withdraw a.counter (wait i u)))
  d4 : {a : Acquire} {t : ℕ} → Line m i g (acquiring a D4 t) (resting t) (record g { locks = put g.locks (m.root a.counter) 0 }) Nothing
  d5 : {a : Acquire} {u t : ℕ}
      → Line m i g (acquiring a (Parked u D5) t) (acquiring a (Parked u P) t) (record g { locks = put g.locks (m.root a.counter) 0 }) Nothing
  a10_zero : {a : Acquire} {t : ℕ} → g.numbers a.counter ≡ 0 → Line m i g (acquiring a A10 t) (acquiring a A3 t) g Nothing
  a10_some : {a : Acquire} {t n : ℕ} → g.numbers a.counter ≡ suc n → Line m i g (acquiring a A10 t) (acquiring a (A11 n) t) g Nothing
  a11_won : {a : Acquire} {t n : ℕ} → g.numbers a.counter ≡ suc n
      → Line m i g (acquiring a (A11 n) t) (resting t) (record g { numbers = put g.numbers a.counter n }) (Tells (Take a.counter i))
  a11_lost : {a : Acquire} {t n : ℕ} → g.numbers a.counter ≢ suc n → Line m i g (acquiring a (A11 n) t) (acquiring a A10 t) g Nothing
  r1 : {r : Release} {t : ℕ}
      → Line m i g (releasing r R1 t []) (releasing r R2 t [])
      (record g { numbers = put g.numbers r.counter (g.numbers r.counter + 1) }) (Tells (Add r.counter i))
  r2_zero : {r : Release} {t : ℕ} → g.waiters (m.root r.counter) ≡ 0 → Line m i g (releasing r R2 t []) (resting t) g Nothing
  r2_some : {r : Release} {t : ℕ} → Line m i g (releasing r R2 t []) (releasing r R3 t []) g Nothing
  r3 : {r : Release} {t : ℕ} → g.locks (m.root r.counter) ≡ 0
      → Line m i g (releasing r R3 t []) (releasing r R4 t []) (record g { locks = put g.locks (m.root r.counter) 1 }) Nothing
  r4_none : {r : Release} {t : ℕ} → (g.waiters (m.root r.counter) ≡ 0) ⊎ (g.lists r.counter ≡ [])
      → Line m i g (releasing r R4 t []) (releasing r R6 t []) g Nothing
  r4_some : {r : Release} {t : ℕ} → 0 < length (g.lists r.counter) → Line m i g (releasing r R4 t []) (releasing r R5 t []) g Nothing
  r5 : {r : Release} {t : ℕ} {w : WaitId} {l : List WaitId} → g.lists r.counter ≡ w ∷ l
      → Line m i g (releasing r R5 t []) (releasing r R6 t (w ∷ []))
      (record g { waiters = put g.waiters (m.root r.counter) (g.waiters (m.root r.counter) - 1); lists = put g.lists r.counter l })
      (Tells (Leave r.counter w i))
  r6_none : {r : Release} {t : ℕ} → Line m i g (releasing r R6 t []) (resting t) (record g { locks = put g.locks (m.root r.counter) 0 }) Nothing
  r6_plain : {r : Release} {t : ℕ} {w : WaitId}
      → Line m i g (releasing r R6 t (w ∷ [])) (releasing r R10 t (w ∷ [])) (record g { locks = put g.locks (m.root r.counter) 0 }) Nothing
  r6_handoff : {r : Release} {t : ℕ} {w : WaitId}
      → Line m i g (releasing r R6 t (w ∷ [])) (releasing r R7 t (w ∷ [])) (record g { locks = put g.locks (m.root r.counter) 0 }) Nothing
  r7_zero : {r : Release} {t : ℕ} {w : WaitId} → Line m i g (releasing r R7 t (w ∷ [])) (releasing r R10 t (w ∷ [])) g Nothing
  r7_some : {r : Release} {t n : ℕ} {w : WaitId} → Line m i g (releasing r R7 t (w ∷ [])) (releasing r (R8 n) t (w ∷ [])) g Nothing
  r8_won : {r : Release} {t n : ℕ} {w : WaitId} → g.numbers r.counter ≡ suc n
      → Line m i g (releasing r (R8 n) t (w ∷ [])) (releasing r R9 t (w ∷ []))
      (record g { numbers = put g.numbers r.counter n }) (Tells (Take r.counter w.seat))
  r8_lost : {r : Release} {t n : ℕ} {w : WaitId} → Line m i g (releasing r (R8 n) t (w ∷ [])) (releasing r R7 t (w ∷ [])) g Nothing
  begin_many : {r : ReleaseMany} {t : ℕ} → r.counter < m.counters → 1 ≤ r.units → r.units ≤ 256
      → Line m i g (resting t) (releasing_many r M1 t []) g Nothing
  m1 : {r : ReleaseMany} {t : ℕ}
      → Line m i g (releasing_many r M1 t []) (releasing_many r M2 t [])
      (record g { numbers = put g.numbers r.counter (g.numbers r.counter + r.units) }) (Tells (AddMany r.counter r.units i))
  m2_zero : {r : ReleaseMany} {t : ℕ} → g.waiters (m.root r.counter) ≡ 0 → Line m i g (releasing_many r M2 t []) (resting t) g Nothing
  m2_some : {r : ReleaseMany} {t : ℕ} → Line m i g (releasing_many r M2 t []) (releasing_many r M3 t []) g Nothing
  m3 : {r : ReleaseMany} {t : ℕ} → g.locks (m.root r.counter) ≡ 0
      → Line m i g (releasing_many r M3 t []) (releasing_many r M4 t []) (record g { locks = put g.locks (m.root r.counter) 1 }) Nothing
  m4_none : {r : ReleaseMany} {t : ℕ} → (g.waiters (m.root r.counter) ≡ 0) ⊎ (g.lists r.counter ≡ [])
      → Line m i g (releasing_many r M4 t []) (releasing_many r M6 t []) g Nothing
  m4_some : {r : ReleaseMany} {t : ℕ} → 0 < length (g.lists r.counter)
      → Line m i g (releasing_many r M4 t []) (releasing_many r M5 t []) g Nothing
  m5_more : {r : ReleaseMany} {t : ℕ} {w : WaitId} {l hand : List WaitId} → g.lists r.counter ≡ w ∷ l
      → length hand + 1 < r.units → 0 < length l
      → Line m i g (releasing_many r M5 t hand) (releasing_many r M5 t (hand ++ w ∷ []))
      (record g { waiters = put g.waiters (m.root r.counter) (g.waiters (m.root r.counter) - 1); lists = put g.lists r.counter l })
      (Tells (Leave r.counter w i))
  m5_last : {r : ReleaseMany} {t : ℕ} {w : WaitId} {l hand : List WaitId} → g.lists r.counter ≡ w ∷ l
      → (length hand + 1 ≡ r.units) ⊎ (length l ≡ 0)
      → Line m i g (releasing_many r M5 t hand) (releasing_many r M6 t (hand ++ w ∷ []))
      (record g { waiters = put g.waiters (m.root r.counter) (g.waiters (m.root r.counter) - 1); lists = put g.lists r.counter l })
      (Tells (Leave r.counter w i))
  m6_none : {r : ReleaseMany} {t : ℕ}
      → Line m i g (releasing_many r M6 t []) (resting t) (record g { locks = put g.locks (m.root r.counter) 0 }) Nothing
  m6_some : {r : ReleaseMany} {t : ℕ} {w : WaitId} {l : List WaitId}
      → Line m i g (releasing_many r M6 t (w ∷ l)) (releasing_many r M7 t (w ∷ l)) (record g { locks = put g.locks (m.root r.counter) 0 }) Nothing

-- the rows that store the grant word of the waiter in hand: the seat before and after, the counter, the waiter, the grant
pub data Post : SeatState → SeatState → ℕ → WaitId → ℕ → Type 0 where
  r9 : {r : Release} {t : ℕ} {w : WaitId} → Post (releasing r R9 t (w ∷ [])) (resting t) r.counter w 2
  r10 : {r : Release} {t : ℕ} {w : WaitId} → Post (releasing r R10 t (w ∷ [])) (resting t) r.counter w 1
  m7_last : {r : ReleaseMany} {t : ℕ} {w : WaitId} → Post (releasing_many r M7 t (w ∷ [])) (resting t) r.counter w 1
  m7_more : {r : ReleaseMany} {t : ℕ} {w x : WaitId} {l : List WaitId}
      → Post (releasing_many r M7 t (w ∷ x ∷ l)) (releasing_many r M7 t (x ∷ l)) r.counter w 1

-- one step of seat i
pub data Step (m : Layout) (s : SemaWorld) (i : ℕ) : SemaWorld → Type 0 where
  own : {q : SeatState} {h : Words} {e : Effect} → Line m i s.words (s.seats i) q h e
      → Step m s i (record { words = h; seats = put s.seats i q; journal = journal_after e s.journal })
  post : {c x : ℕ} {w : WaitId} {q : SeatState} → Post (s.seats i) q c w x
      → Step m s i (record { words = record s.words { grants = put s.words.grants w.seat x }; seats = put s.seats i q; journal = s.journal })
