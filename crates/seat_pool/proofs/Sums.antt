-- How often a number stands in lists, and sums over the passes.
use Rattle.std.proofs.Common.{◌≡◌, ◌≢◌, ℕ, zero, suc, ◌+◌, ◌≤◌, List, [], ◌∷◌, ◌++◌, length, map, set, refl, sym, ap, ◌∙◌, arith, length-append}
use mathlib.Core.Option.{some, some-injective, some-ne-none}
use native.Mathlib.Decide.{ℕ_discrete}
use lib.ListN.{get_elem?}
use Rattle.seat_pool.specs.declared.loans.Loans.{Loans}
use Rattle.step_table.specs.Counting.{on, among}
use Rattle.step_table.proofs.Sums.{on_here, on_else}
use Rattle.seat_pool.specs.Rule.{numbers_below, sum_of}

pub among_append : (k : ℕ) (a b : List ℕ) → among k (a ++ b) ≡ among k a + among k b
among_append k [] b = omega arith
among_append k (n ∷ a) b = let rest = among_append k a b in omega arith

pub among_pushed : {T : Type 0} (number : T → ℕ) (k : ℕ) (items : List T) (x : T)
    → among k (map number (items ++ x ∷ [])) ≡ among k (map number items) + on k (number x) 1
among_pushed number k [] x = omega arith
among_pushed number k (y ∷ items) x = let rest = among_pushed number k items x in omega arith

pub length_below : (n : ℕ) → length (numbers_below n) ≡ n
length_below zero = refl
length_below (suc n) = let rest = length_below n in omega (arith, length-append (numbers_below n) (n ∷ []))

none_below : (k n : ℕ) → n ≤ k → among k (numbers_below n) ≡ 0
none_below k zero few = refl
none_below k (suc n) few =
    let rest = none_below k n (omega arith) in let last = on_else k n 1 (λ e. absurd (omega arith)) in
    omega (arith, among_append k (numbers_below n) (n ∷ []))

-- each of the numbers up to n is there once at most
last_or_below : (k n : ℕ) → among k (numbers_below n) ≤ 1 → Dec (k ≡ n) → among k (numbers_below n) + on k n 1 ≤ 1
last_or_below k n most (yes e) =
    let none = none_below k n (omega arith) in let one : on k n 1 ≡ 1 = ap (λ m. on k m 1) (sym e) ∙ on_here k 1 in omega arith
last_or_below k n most (no ne) = let none = on_else k n 1 ne in omega arith

once_below : (k n : ℕ) → among k (numbers_below n) ≤ 1
once_below k zero = omega arith
once_below k (suc n) =
    let all = last_or_below k n (once_below k n) (ℕ_discrete k n) in omega (arith, among_append k (numbers_below n) (n ∷ []))

pub once_up_to : (k n : ℕ) → among k (numbers_below n) + on k n 1 ≤ 1
once_up_to k n = last_or_below k n (once_below k n) (ℕ_discrete k n)

module _ {H : Type 0} where
  -- the sum after a change of one pass, and with a pass more
  pub sum_set : (f : Loans H → ℕ) (views : List (Loans H)) (k : ℕ) (v w : Loans H) → get_elem? views k ≡ some v
      → sum_of f (set views k w) + f v ≡ sum_of f views + f w
  sum_set f [] k v w at = absurd (some-ne-none v (sym at))
  sum_set f (u ∷ views) zero v w at = let same : f u ≡ f v = ap f (some-injective u v at) in omega arith
  sum_set f (u ∷ views) (suc k) v w at = let rest = sum_set f views k v w at in omega arith

  pub sum_snoc : (f : Loans H → ℕ) (views : List (Loans H)) (w : Loans H) → sum_of f (views ++ w ∷ []) ≡ sum_of f views + f w
  sum_snoc f [] w = omega arith
  sum_snoc f (u ∷ views) w = let rest = sum_snoc f views w in omega arith

  pub at_most_sum : (f : Loans H → ℕ) (views : List (Loans H)) (k : ℕ) (v : Loans H) → get_elem? views k ≡ some v → f v ≤ sum_of f views
  at_most_sum f [] k v at = absurd (some-ne-none v (sym at))
  at_most_sum f (u ∷ views) zero v at = let same : f u ≡ f v = ap f (some-injective u v at) in omega arith
  at_most_sum f (u ∷ views) (suc k) v at = let rest = at_most_sum f views k v at in omega arith
