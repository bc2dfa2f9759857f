-- Sums over seats and counters, and functions with one value changed.
use Rattle.std.proofs.Common.{◌≡◌, ℕ, zero, suc, ◌+◌, ◌<◌, ◌≤◌, ◌≢◌, ◌⊎◌, Bool, true, false, cond, List, [], ◌∷◌}
use Rattle.std.proofs.Common.{◌++◌, length, refl, sym, ap, ◌∙◌, inl, inr}
use Rattle.std.proofs.Common.{eq-eqb, ne_eqb, arith}
use mathlib.Core.Path.{fun_ext}
use native.Mathlib.Decide.{ℕ_discrete}
use Rattle.waiters.specs.declared.wait.WaitId.{WaitId}
use Rattle.step_table.specs.declared.word.Word.{Word}
use Rattle.step_table.specs.declared.word.Word.TheVariants.{Counter, Lock, Waiters, Grant}
use Rattle.step_table.specs.World.{Words, put, insert_wait, found, written}
use Rattle.step_table.specs.Counting.{on, same, total, times}

pub put_here : {A : Type 0} (f : ℕ → A) (i : ℕ) (x : A) → put f i x i ≡ x
unfolding put
put_here f i x = ap (λ b. cond b x (f i)) (eq-eqb i i refl)

pub put_else : {A : Type 0} (f : ℕ → A) (i : ℕ) (x : A) (k : ℕ) → k ≢ i → put f i x k ≡ f k
unfolding put
put_else f i x k ne = ap (λ b. cond b x (f k)) (ne_eqb k i ne)

pub on_here : (a n : ℕ) → on a a n ≡ n
unfolding on
on_here a n = ap (λ b. cond b n 0) (eq-eqb a a refl)

pub on_else : (a b n : ℕ) → a ≢ b → on a b n ≡ 0
unfolding on
on_else a b n ne = ap (λ c. cond c n 0) (ne_eqb a b ne)

pub total_zero : (f : ℕ → ℕ) → total 0 f ≡ 0
unfolding total
total_zero f = refl

pub total_suc : (n : ℕ) (f : ℕ → ℕ) → total (suc n) f ≡ total n f + f n
unfolding total
total_suc n f = refl

pub total_same : (n : ℕ) (f g : ℕ → ℕ) → ((k : ℕ) → k < n → f k ≡ g k) → total n f ≡ total n g
unfolding total
total_same zero f g e = refl
total_same (suc n) f g e = let a : total n f ≡ total n g = total_same n f g (λ k h. e k (omega arith)) in let b = e n (omega arith) in omega arith

pub total_le : (n : ℕ) (f g : ℕ → ℕ) → ((k : ℕ) → k < n → f k ≤ g k) → total n f ≤ total n g
unfolding total
total_le zero f g e = omega arith
total_le (suc n) f g e = let a : total n f ≤ total n g = total_le n f g (λ k h. e k (omega arith)) in let b = e n (omega arith) in omega arith

-- where f and g differ at i alone
pub total_change : (n : ℕ) (f g : ℕ → ℕ) (i : ℕ) → i < n → ((k : ℕ) → k ≢ i → g k ≡ f k) → total n g + f i ≡ total n f + g i
unfolding total
total_change zero f g i h e = absurd (omega arith)
total_change (suc n) f g i h e = by (total_change n f g i) (ℕ_discrete n i)
  where
    by : (i < n → ((k : ℕ) → k ≢ i → g k ≡ f k) → total n g + f i ≡ total n f + g i) → Dec (n ≡ i)
        → total n g + g n + f i ≡ total n f + f n + g i
    by ih (yes q) = let a : total n g ≡ total n f = total_same n g f (λ k lt. e k (λ w. omega arith)) in let b = ap f q in let c = ap g q in omega arith
    by ih (no ne) = let a : total n g + f i ≡ total n f + g i = ih (omega arith) e in let b = e n ne in omega arith

pub total_has : (n : ℕ) (f : ℕ → ℕ) (i : ℕ) → i < n → f i ≤ total n f
unfolding total
total_has zero f i h = absurd (omega arith)
total_has (suc n) f i h = by (total_has n f i) (ℕ_discrete n i)
  where
    by : (i < n → f i ≤ total n f) → Dec (n ≡ i) → f i ≤ total n f + f n
    by ih (yes q) = let b = ap f q in omega arith
    by ih (no ne) = let a : f i ≤ total n f = ih (omega arith) in omega arith

pub total_some : (n : ℕ) (f : ℕ → ℕ) → 0 < total n f → (k : ℕ) × (k < n) × (0 < f k)
unfolding total
total_some zero f h = absurd (omega arith)
total_some (suc n) f h = by (total_some n f) (ℕ_discrete (f n) 0)
  where
    by : (0 < total n f → (k : ℕ) × (k < n) × (0 < f k)) → Dec (f n ≡ 0) → (k : ℕ) × (k < suc n) × (0 < f k)
    by ih (yes q) = let r = ih (omega arith) in let l = r.1 in (r.0, omega arith, r.2)
    by ih (no ne) = (n, omega arith, omega arith)

-- the sum over all but i of f is at most that of g, where f is nowhere above g
pub total_rest : (n : ℕ) (f g : ℕ → ℕ) (i : ℕ) → i < n → ((k : ℕ) → f k ≤ g k) → total n f + g i ≤ total n g + f i
unfolding total
total_rest zero f g i h e = absurd (omega arith)
total_rest (suc n) f g i h e = by (total_rest n f g i) (ℕ_discrete n i)
  where
    by : (i < n → ((k : ℕ) → f k ≤ g k) → total n f + g i ≤ total n g + f i) → Dec (n ≡ i) → total n f + f n + g i ≤ total n g + g n + f i
    by ih (yes q) = let a : total n f ≤ total n g = total_le n f g (λ k lt. e k) in let b = ap f q in let c = ap g q in omega arith
    by ih (no ne) = let a : total n f + g i ≤ total n g + f i = ih (omega arith) e in let b = e n in omega arith

pub put_most : (f : ℕ → ℕ) (c x d m : ℕ) → x ≤ m → f d ≤ m → put f c x d ≤ m
put_most f c x d m a b = by (ℕ_discrete d c)
  where
    by : Dec (d ≡ c) → put f c x d ≤ m
    by (yes q) = rw q (let h = put_here f c x in omega arith)
    by (no ne) = let h = put_else f c x d ne in omega arith

-- n more at c, and one more
pub up_by : (n : ℕ) (f : ℕ → ℕ) (c x d : ℕ) → x ≡ f c + n → put f c x d ≡ f d + on c d n
up_by n f c x d e = by (ℕ_discrete d c)
  where
    by : Dec (d ≡ c) → put f c x d ≡ f d + on c d n
    by (yes q) = rw q (let a = put_here f c x in let b = on_here c n in omega arith)
    by (no ne) = let a = put_else f c x d ne in let b = on_else c d n (λ q. ne (sym q)) in omega arith

pub up : (f : ℕ → ℕ) (c x d : ℕ) → x ≡ f c + 1 → put f c x d ≡ f d + on c d 1
up f c x d e = up_by 1 f c x d e

-- one less at c
pub down : (f : ℕ → ℕ) (c x d : ℕ) → x + 1 ≡ f c → put f c x d + on c d 1 ≡ f d
down f c x d e = by (ℕ_discrete d c)
  where
    by : Dec (d ≡ c) → put f c x d + on c d 1 ≡ f d
    by (yes q) = rw q (let a = put_here f c x in let b = on_here c 1 in omega arith)
    by (no ne) = let a = put_else f c x d ne in let b = on_else c d 1 (λ q. ne (sym q)) in omega arith

-- a sum over the seats, after a row of seat i that changes no other grant word
pub owned : {A : Type 0} (f : ℕ → A → ℕ → ℕ) (seats : ℕ) (stand : ℕ → A) (grants after : ℕ → ℕ) (i : ℕ) (q : A) → i < seats
    → ((k : ℕ) → k ≢ i → after k ≡ grants k)
    → total seats (λ k. f k (put stand i q k) (after k)) + f i (stand i) (grants i) ≡ total seats (λ k. f k (stand k) (grants k)) + f i q (after i)
owned f seats stand grants after i q in_range e =
    let a : total seats (λ k. f k (put stand i q k) (after k)) + f i (stand i) (grants i)
    ≡ total seats (λ k. f k (stand k) (grants k)) + f i (put stand i q i) (after i)
    = total_change seats (λ k. f k (stand k) (grants k)) (λ k. f k (put stand i q k) (after k)) i in_range
    (λ k ne. ap (λ p. f k p (after k)) (put_else stand i q k ne) ∙ ap (f k (stand k)) (e k ne)) in
    let h = ap (λ p. f i p (after i)) (put_here stand i q) in omega arith

-- the same after seat i has stored x in the grant word of seat j
pub posted : {A : Type 0} (f : ℕ → A → ℕ → ℕ) (seats : ℕ) (stand : ℕ → A) (grants : ℕ → ℕ) (i j x : ℕ)
    (q : A) → i < seats → j < seats → j ≢ i
    → total seats (λ k. f k (put stand i q k) (put grants j x k)) + f i (stand i) (grants i) + f j (stand j) (grants j)
    ≡ total seats (λ k. f k (stand k) (grants k)) + f i q (grants i) + f j (stand j) x
posted f seats stand grants i j x q in_range there ne =
    let a : total seats (λ k. f k (put stand i q k) (grants k)) + f i (stand i) (grants i) ≡ total seats (λ k. f k (stand k) (grants k)) + f i q (grants i)
    = owned f seats stand grants grants i q in_range (λ k h. refl) in
    let b : total seats (λ k. f k (put stand i q k) (put grants j x k)) + f j (put stand i q j) (grants j)
    ≡ total seats (λ k. f k (put stand i q k) (grants k)) + f j (put stand i q j) (put grants j x j)
    = total_change seats (λ k. f k (put stand i q k) (grants k)) (λ k. f k (put stand i q k) (put grants j x k)) j there
    (λ k h. ap (f k (put stand i q k)) (put_else grants j x k h)) in
    let p = put_else stand i q j ne in
    let c = ap (λ z. f j z (grants j)) p in
    let d : f j (put stand i q j) (put grants j x j) ≡ f j (stand j) x = ap (λ z. f j z (put grants j x j)) p ∙ ap (f j (stand j)) (put_here grants j x) in
    omega arith

pub on_add : (a b m n : ℕ) → on a b (m + n) ≡ on a b m + on a b n
on_add a b m n = by (ℕ_discrete a b)
  where
    by : Dec (a ≡ b) → on a b (m + n) ≡ on a b m + on a b n
    by (yes q) = rw q (let x = on_here b (m + n) in let y = on_here b m in let z = on_here b n in omega arith)
    by (no ne) = let x = on_else a b (m + n) ne in let y = on_else a b m ne in let z = on_else a b n ne in omega arith

pub on_le : (a b m n : ℕ) → m ≤ n → on a b m ≤ on a b n
on_le a b m n h = by (ℕ_discrete a b)
  where
    by : Dec (a ≡ b) → on a b m ≤ on a b n
    by (yes q) = rw q (let x = on_here b m in let y = on_here b n in omega arith)
    by (no ne) = let x = on_else a b m ne in let y = on_else a b n ne in omega arith

pub on_zero : (a b : ℕ) → on a b 0 ≡ 0
on_zero a b = by (ℕ_discrete a b)
  where
    by : Dec (a ≡ b) → on a b 0 ≡ 0
    by (yes q) = rw q (on_here b 0)
    by (no ne) = on_else a b 0 ne

-- d is c, or nothing of c counts at d
pub pick : (n : ℕ) (f : ℕ → ℕ) (c d : ℕ) → (f c ≡ f d) ⊎ (on c d n ≡ 0)
pick n f c d = by (ℕ_discrete c d)
  where
    by : Dec (c ≡ d) → (f c ≡ f d) ⊎ (on c d n ≡ 0)
    by (yes q) = inl (ap f q)
    by (no ne) = inr (on_else c d n ne)

-- a measure of lists after the list of c has changed
pub list_up : (f : List WaitId → ℕ) (lists : ℕ → List WaitId) (c : ℕ) (l : List WaitId) (d n : ℕ) → f l ≡ f (lists c) + n
    → f (put lists c l d) ≡ f (lists d) + on c d n
list_up f lists c l d n e = by (ℕ_discrete d c)
  where
    by : Dec (d ≡ c) → f (put lists c l d) ≡ f (lists d) + on c d n
    by (yes q) = rw q (let a = ap f (put_here lists c l) in let b = on_here c n in omega arith)
    by (no ne) = let a = ap f (put_else lists c l d ne) in let b = on_else c d n (λ q. ne (sym q)) in omega arith

pub list_down : (f : List WaitId → ℕ) (lists : ℕ → List WaitId) (c : ℕ) (l : List WaitId) (d n : ℕ) → f l + n ≡ f (lists c)
    → f (put lists c l d) + on c d n ≡ f (lists d)
list_down f lists c l d n e = by (ℕ_discrete d c)
  where
    by : Dec (d ≡ c) → f (put lists c l d) + on c d n ≡ f (lists d)
    by (yes q) = rw q (let a = ap f (put_here lists c l) in let b = on_here c n in omega arith)
    by (no ne) = let a = ap f (put_else lists c l d ne) in let b = on_else c d n (λ q. ne (sym q)) in omega arith

pub length_last : (w : WaitId) (l : List WaitId) → length (l ++ w ∷ []) ≡ length l + 1
length_last w [] = refl
length_last w (x ∷ l) = let a : length (l ++ w ∷ []) ≡ length l + 1 = length_last w l in omega arith

pub times_last : (x w : WaitId) (l : List WaitId) → times x (l ++ w ∷ []) ≡ times x l + same x w
times_last x w [] = omega arith
times_last x w (y ∷ l) = let a : times x (l ++ w ∷ []) ≡ times x l + same x w = times_last x w l in omega arith

pub length_insert : (lifo : Bool) (w : WaitId) (l : List WaitId) → length (insert_wait lifo w l) ≡ length l + 1
unfolding insert_wait
length_insert true w l = omega arith
length_insert false w l = length_last w l

pub times_insert : (x : WaitId) (lifo : Bool) (w : WaitId) (l : List WaitId) → times x (insert_wait lifo w l) ≡ times x l + same x w
unfolding insert_wait
times_insert x true w l = omega arith
times_insert x false w l = times_last x w l

pub flip : (a b n : ℕ) → on a b n ≡ on b a n
flip a b n = by (ℕ_discrete a b)
  where
    by : Dec (a ≡ b) → on a b n ≡ on b a n
    by (yes q) = rw q
    by (no ne) = on_else a b n ne ∙ sym (on_else b a n (λ z. ne (sym z)))

-- a sum of nothing
pub nothing : (n : ℕ) (f : ℕ → ℕ) → ((k : ℕ) → f k ≡ 0) → total n f ≡ 0
unfolding total
nothing zero f e = refl
nothing (suc n) f e = let a : total n f ≡ 0 = nothing n f e in let b = e n in omega arith

-- a sum of one term
pub single : (n : ℕ) (f : ℕ → ℕ) (i : ℕ) → i < n → ((k : ℕ) → k ≢ i → f k ≡ 0) → total n f ≡ f i
single n f i h e =
    let a : total n (λ k. 0) + f i ≡ total n f + 0 = total_change n f (λ k. 0) i h (λ k ne. sym (e k ne)) in
    let b = nothing n (λ k. 0) (λ k. refl) in omega arith

-- two terms of a sum
pub pair : (n : ℕ) (f : ℕ → ℕ) (i k : ℕ) → i < n → k < n → i ≢ k → f i + f k ≤ total n f
pair n f i k hi hk ne =
    let a : total n (put f i 0) + f i ≡ total n f + put f i 0 i = total_change n f (put f i 0) i hi (λ z h. put_else f i 0 z h) in
    let b = put_here f i 0 in let c = total_has n (put f i 0) k hk in let d = put_else f i 0 k (λ z. ne (sym z)) in omega arith

pub on_most : (a b n : ℕ) → on a b n ≤ n
on_most a b n = by (ℕ_discrete a b)
  where
    by : Dec (a ≡ b) → on a b n ≤ n
    by (yes q) = rw q (let e = on_here b n in omega arith)
    by (no ne) = let e = on_else a b n ne in omega arith

-- what holds of each value of f, after the one at i has changed
pub put_at : {A : Type 0} (Has : ℕ → A → Type 0) (f : ℕ → A) (i : ℕ) (x : A) (k : ℕ) → Has i x
    → (k ≢ i → Has k (f k)) → Has k (put f i x k)
put_at Has f i x k here else = by (ℕ_discrete k i)
  where
    by : Dec (k ≡ i) → Has k (put f i x k)
    by (yes e) = rw e (rw (put_here f i x) here)
    by (no ne) = rw (put_else f i x k ne) (else ne)

-- a measure of all lists, after the list of c has changed
pub lists_change : (f : List WaitId → ℕ) (counters c : ℕ) (lists : ℕ → List WaitId) (l : List WaitId) → c < counters
    → total counters (λ d. f (put lists c l d)) + f (lists c) ≡ total counters (λ d. f (lists d)) + f l
lists_change f counters c lists l h =
    let a : total counters (λ d. f (put lists c l d)) + f (lists c) ≡ total counters (λ d. f (lists d)) + f (put lists c l c)
    = total_change counters (λ d. f (lists d)) (λ d. f (put lists c l d)) c h (λ k ne. ap f (put_else lists c l k ne)) in
    let b = ap f (put_here lists c l) in omega arith

pub put_same : {A : Type 0} (f : ℕ → A) (i : ℕ) → put f i (f i) ≡ f
put_same f i = fun_ext (λ k. by k (ℕ_discrete k i))
  where
    by : (k : ℕ) → Dec (k ≡ i) → put f i (f i) k ≡ f k
    by k (yes e) = rw e (put_here f i (f i))
    by k (no ne) = put_else f i (f i) k ne

-- a load writes back what it found
pub unwritten : (root : ℕ → ℕ) (g : Words) (w : Word) → written root g w (found root g w) ≡ g
unwritten root g (Counter c) = λ k. record g { numbers = put_same g.numbers c k }
unwritten root g (Lock c) = λ k. record g { locks = put_same g.locks (root c) k }
unwritten root g (Waiters c) = λ k. record g { waiters = put_same g.waiters (root c) k }
unwritten root g (Grant s) = λ k. record g { grants = put_same g.grants s k }

-- two numbers at which something counts are one
pub on_some : (a b n : ℕ) → 0 < on a b n → (a ≡ b) × (0 < n)
on_some a b n h = by (ℕ_discrete a b)
  where
    by : Dec (a ≡ b) → (a ≡ b) × (0 < n)
    by (yes q) = (q, (let e = on_here b n in let f = ap (λ z. on z b n) q in omega arith))
    by (no ne) = let e = on_else a b n ne in absurd (omega arith)
