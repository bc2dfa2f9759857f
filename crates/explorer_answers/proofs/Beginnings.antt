-- How far a line passes a test.
use Rattle.std.proofs.Common.{◌≡◌, ℕ, zero, suc, ◌+◌, ◌≤◌, Bool, true, false, cond, not, nat_lt, ◌&&◌, List, [], ◌∷◌, length, take}
use Rattle.std.proofs.Common.{Option, Some, None, refl}
use Rattle.std.proofs.Common.{sym, arith}
use Rattle.std.proofs.lemmas.Option.{none-some, same_Some}
use Rattle.std.proofs.lemmas.Bool.{ltb-false}
use Rattle.std.specs.Prelude.{position}
use Rattle.std.specs.List.{position_or_len, list_all}

at_most : (t : Bool) (n m : ℕ) → n ≤ m → cond t (1 + n) 0 ≤ suc m
at_most true n m h = omega arith
at_most false n m h = omega arith

pub within : {X : Type 0} (p : X → Bool) (xs : List X) → position_or_len p xs ≤ length xs
within p [] = omega arith
within p (x ∷ xs) = at_most (not (p x)) (position_or_len p xs) (length xs) (within p xs)

lt_of : (b : Bool) (n len k : ℕ) → nat_lt n len ≡ b → cond b (Some n) None ≡ Some k → n ≡ k
lt_of true n len k e f = same_Some n k f
lt_of false n len k e f = absurd (none-some k f)

ge_of : (b : Bool) (n len : ℕ) → nat_lt n len ≡ b → (let o : Option ℕ = None in cond b (Some n) None ≡ o) → len ≤ n
ge_of true n len e f = absurd cc
ge_of false n len e f = ltb-false n len e

pub placed : {X : Type 0} (p : X → Bool) (xs : List X) (k : ℕ) → position p xs ≡ Some k → k ≡ position_or_len p xs
placed p xs k e = sym (lt_of _ (position_or_len p xs) (length xs) k refl e)

pub nowhere : {X : Type 0} (p : X → Bool) (xs : List X) → (let o : Option ℕ = None in position p xs ≡ o) → length xs ≡ position_or_len p xs
nowhere p xs e = let g = ge_of _ (position_or_len p xs) (length xs) refl e in let h = within p xs in omega arith

and_all : (t : Bool) (n k : ℕ) (rest : Bool) → suc n ≤ cond (not (not t)) (1 + k) 0 → (n ≤ k → rest ≡ true) → (t && rest) ≡ true
and_all true n k rest le h = h (omega arith)
and_all false n k rest le h = absurd (omega arith)

-- what stands before the first that fails passes
pub all_pass : {X : Type 0} (p : X → Bool) (xs : List X) (n : ℕ) → n ≤ position_or_len (λ x. not (p x)) xs → list_all p (take n xs) ≡ true
all_pass p [] zero le = refl
all_pass p [] (suc n) le = refl
all_pass p (x ∷ xs) zero le = refl
all_pass p (x ∷ xs) (suc n) le = and_all (p x) n (position_or_len (λ y. not (p y)) xs) (list_all p (take n xs)) le (all_pass p xs n)
