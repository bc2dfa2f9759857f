-- How a text is cut at its first line feed.
use Rattle.std.proofs.Common.{◌≡◌, ℕ, zero, suc, ◌+◌, ◌-◌, ◌<◌, ◌≤◌, Bool, true, false, cond, not, nat_lt, List, [], ◌∷◌}
use Rattle.std.proofs.Common.{length, take, drop, Option, Some}
use Rattle.std.proofs.Common.{None, refl, sym, ap, subst, ◌∙◌, arith}
use Rattle.std.proofs.lemmas.List.{nil_from_length, length-drop}
use Rattle.std.proofs.lemmas.Option.{none-some, same_Some}
use Rattle.std.proofs.lemmas.Bool.{ltb-true, ltb-false}
use Rattle.std.specs.Prelude.{◌==◌, position}
use Rattle.std.specs.List.{position_or_len}
use Rattle.scenario_text.specs.Pieces.{put, pieces}

ended_by : (t : Bool) (x : ℕ) (xs : List ℕ) (n : ℕ)
    → (n < length xs → pieces xs ≡ record { text = take n xs; ended = true } ∷ pieces (drop (suc n) xs)) → cond (not t) (1 + n) 0 < suc (length xs)
    → cond t (record { text = []; ended = true } ∷ pieces xs) (put x (pieces xs))
    ≡ record { text = take (cond (not t) (1 + n) 0) (x ∷ xs); ended = true } ∷ pieces (drop (suc (cond (not t) (1 + n) 0)) (x ∷ xs))
ended_by true x xs n h lt = refl
ended_by false x xs n h lt = let k : suc n ≡ 1 + n = omega arith in
    subst (λ (m : ℕ). put x (pieces xs) ≡ record { text = take m (x ∷ xs); ended = true } ∷ pieces (drop (suc m) (x ∷ xs))) k
    (ap (put x) (h (omega arith)))

pub first_ended : (bytes : List ℕ) → position_or_len (λ b. b == 10) bytes < length bytes → pieces bytes
    ≡ record { text = take (position_or_len (λ b. b == 10) bytes) bytes; ended = true } ∷ pieces (drop (suc (position_or_len (λ b. b == 10) bytes)) bytes)
first_ended [] lt = absurd (omega arith)
first_ended (x ∷ xs) lt = ended_by (x == 10) x xs (position_or_len (λ b. b == 10) xs) (first_ended xs) lt

open_by : (t : Bool) (x : ℕ) (xs : List ℕ) (n : ℕ) → (n ≡ length xs → 0 < length xs → pieces xs ≡ record { text = xs; ended = false } ∷ [])
    → cond (not t) (1 + n) 0 ≡ suc (length xs)
    → cond t (record { text = []; ended = true } ∷ pieces xs) (put x (pieces xs)) ≡ record { text = x ∷ xs; ended = false } ∷ []
open_by true x xs n h e = absurd (omega arith)
open_by false x [] n h e = refl
open_by false x (y ∷ ys) n h e = ap (put x) (h (omega arith) (omega arith))

pub first_open : (bytes : List ℕ) → position_or_len (λ b. b == 10) bytes ≡ length bytes → 0 < length bytes
    → pieces bytes ≡ record { text = bytes; ended = false } ∷ []
first_open [] e some = absurd (omega arith)
first_open (x ∷ xs) e some = open_by (x == 10) x xs (position_or_len (λ b. b == 10) xs) (first_open xs) e

at_most : (t : Bool) (n m : ℕ) → n ≤ m → cond (not t) (1 + n) 0 ≤ suc m
at_most true n m h = omega arith
at_most false n m h = omega arith

within : (bytes : List ℕ) → position_or_len (λ b. b == 10) bytes ≤ length bytes
within [] = omega arith
within (x ∷ xs) = at_most (x == 10) (position_or_len (λ b. b == 10) xs) (length xs) (within xs)

all_of : (xs : List ℕ) (n : ℕ) → length xs ≤ n → take n xs ≡ xs
all_of [] zero le = refl
all_of [] (suc n) le = refl
all_of (x ∷ xs) zero le = absurd (omega arith)
all_of (x ∷ xs) (suc n) le = ap (λ (ys : List ℕ). x ∷ ys) (all_of xs n (omega arith))

pub behind : (bytes : List ℕ) (k : ℕ) → take (length bytes - k) (drop k bytes) ≡ drop k bytes
behind bytes k = all_of (drop k bytes) (length bytes - k) (omega (arith, length-drop k bytes))

lt_of : (b : Bool) (n len k : ℕ) → nat_lt n len ≡ b → cond b (Some n) None ≡ Some k → (k ≡ n) × (n < len)
lt_of true n len k e f = (sym (same_Some n k f), ltb-true n len e)
lt_of false n len k e f = absurd (none-some k f)

ge_of : (b : Bool) (n len : ℕ) → nat_lt n len ≡ b → (let o : Option ℕ = None in cond b (Some n) None ≡ o) → len ≤ n
ge_of true n len e f = absurd cc
ge_of false n len e f = ltb-false n len e

pub cut_at : (bytes after : List ℕ) (k : ℕ) → Some k ≡ position (λ b. b == 10) bytes → after ≡ drop (k + 1) bytes
    → pieces bytes ≡ record { text = take k bytes; ended = true } ∷ pieces after
cut_at bytes after k e a =
    let f = lt_of _ (position_or_len (λ b. b == 10) bytes) (length bytes) k refl (sym e) in
    let g = first_ended bytes f.1 in
    let h : suc (position_or_len (λ b. b == 10) bytes) ≡ k + 1 = omega (arith, f.0) in
    g ∙ (λ i. record { text = take (sym f.0 i) bytes; ended = true } ∷ pieces ((ap (λ (m : ℕ). drop m bytes) h ∙ sym a) i))

pub cut_none : (bytes after : List ℕ) → (let o : Option ℕ = None in o ≡ position (λ b. b == 10) bytes) → 0 < length bytes → length after ≡ 0
    → pieces bytes ≡ record { text = bytes; ended = false } ∷ pieces after
cut_none bytes after e some a =
    let f = ge_of _ (position_or_len (λ b. b == 10) bytes) (length bytes) refl (sym e) in
    let g = within bytes in
    first_open bytes (omega arith) some ∙ ap (λ (x : List ℕ). record { text = bytes; ended = false } ∷ pieces x) (sym (nil_from_length after a))
