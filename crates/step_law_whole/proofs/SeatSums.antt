-- Sums over seats and lists, of which one has changed or is known.
use Rattle.std.proofs.Common.{◌≡◌, ℕ, zero, suc, List, [], ◌∷◌, length, slice_index_or, ◌+◌, ◌*◌, ◌<◌, ◌≤◌, ap, arith}
use native.Mathlib.Decide.{ℕ_discrete, dec_lt}
use Rattle.step_table.specs.declared.call.Call.{Call}
use Rattle.step_table.specs.World.{put}
use Rattle.step_law_whole.specs.RunWeight.{calls_cost, scripts_cost}
use Rattle.step_table.specs.Counting.{total}
use Rattle.step_table.proofs.Sums.{total_zero, put_here, put_else, total_change, total_same}
use Rattle.step_table.proofs.SumsOfSums.{total_most}

-- a sum of a measure over seats or lists, after one of them has changed
pub put_change : {A : Type 0} (n : ℕ) (measure : A → ℕ) (f : ℕ → A) (i : ℕ) (x : A) → i < n
    → total n (λ k. measure (put f i x k)) + measure (f i) ≡ total n (λ k. measure (f k)) + measure x
put_change n measure f i x in_range =
    let all : total n (λ k. measure (put f i x k)) + measure (f i) ≡ total n (λ k. measure (f k)) + measure (put f i x i)
    = total_change n (λ k. measure (f k)) (λ k. measure (put f i x k)) i in_range (λ k ne. ap measure (put_else f i x k ne)) in
    let here = ap measure (put_here f i x) in omega arith

-- wherever it is, the sum grows no more than the one
pub put_most : {A : Type 0} (n : ℕ) (measure : A → ℕ) (f : ℕ → A) (i : ℕ) (x : A) (more : ℕ) → measure x ≤ measure (f i) + more
    → total n (λ k. measure (put f i x k)) ≤ total n (λ k. measure (f k)) + more
put_most n measure f i x more most = by (dec_lt i n)
  where
    by : Dec (i < n) → total n (λ k. measure (put f i x k)) ≤ total n (λ k. measure (f k)) + more
    by (yes less) = let all = put_change n measure f i x less in omega arith
    by (no past) =
        let same = total_same n (λ k. measure (put f i x k)) (λ k. measure (f k)) (λ k h. ap measure (put_else f i x k (λ e. omega arith))) in omega arith

-- a sum whose terms are at most b, and of which one is so much
pub all_but : (n b : ℕ) (f : ℕ → ℕ) (i : ℕ) → i < n → ((k : ℕ) → k < n → f k ≤ b) → total n f + b ≤ n * b + f i
all_but n b f i in_range most =
    let all : total n (put f i b) + f i ≡ total n f + put f i b i = total_change n f (put f i b) i in_range (λ k ne. put_else f i b k ne) in
    let here = put_here f i b in
    let few : total n (put f i b) ≤ n * b = total_most n b (put f i b) (λ k less. by k less (ℕ_discrete k i)) in omega arith
  where
    by : (k : ℕ) → k < n → Dec (k ≡ i) → put f i b k ≤ b
    by k less (yes e) = rw e (let here = put_here f i b in omega arith)
    by k less (no ne) = let same = put_else f i b k ne in let few = most k less in omega arith

-- a sum from its front on
from_front : (n : ℕ) (f : ℕ → ℕ) → total (suc n) f ≡ f 0 + total n (λ k. f (suc k))
unfolding total
from_front zero f = omega arith
from_front (suc n) f = let before : total (suc n) f ≡ f 0 + total n (λ k. f (suc k)) = from_front n f in omega arith

-- what all scripts cost is the sum of what each costs
pub scripts_sum : (n : ℕ) (scripts : List (List Call))
    → total (length scripts) (λ k. calls_cost n (slice_index_or scripts k [])) ≡ scripts_cost n scripts
scripts_sum n [] = total_zero (λ k. calls_cost n (slice_index_or [] k []))
scripts_sum n (calls ∷ scripts) =
    let front = from_front (length scripts) (λ k. calls_cost n (slice_index_or (calls ∷ scripts) k [])) in
    let rest : total (length scripts) (λ k. calls_cost n (slice_index_or scripts k [])) ≡ scripts_cost n scripts = scripts_sum n scripts in omega arith
