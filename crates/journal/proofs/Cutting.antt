-- How a text is cut at its first line feed.
use Rattle.std.proofs.Common.{◌≡◌, ℕ, zero, suc, ◌+◌, ◌-◌, ◌<◌, ◌≤◌, Bool, true, false, cond, not, nat_lt, List, [], ◌∷◌}
use Rattle.std.proofs.Common.{◌++◌, length, take, drop, Option}
use Rattle.std.proofs.Common.{Some, None, refl, sym, ap, subst, ◌∙◌, append_assoc, arith}
use Rattle.std.proofs.lemmas.List.{nil_from_length}
use Rattle.std.proofs.lemmas.Option.{none-some, same_Some}
use Rattle.std.proofs.lemmas.Bool.{ltb-true, ltb-false}
use Rattle.std.specs.Prelude.{◌==◌, position}
use Rattle.std.specs.List.{concat, position_or_len}
use Rattle.journal.specs.Cutting.{put, first_lines, lines}

ended_by : (t : Bool) (x : ℕ) (xs : List ℕ) (n : ℕ) → (n < length xs → lines xs ≡ take (suc n) xs ∷ lines (drop (suc n) xs))
    → cond (not t) (1 + n) 0 < suc (length xs)
    → cond t ((x ∷ []) ∷ lines xs) (put x (lines xs)) ≡ take (suc (cond (not t) (1 + n) 0)) (x ∷ xs)
    ∷ lines (drop (suc (cond (not t) (1 + n) 0)) (x ∷ xs))
ended_by true x xs n h lt = refl
ended_by false x xs n h lt = let k : suc n ≡ 1 + n = omega arith in
    subst (λ (m : ℕ). put x (lines xs) ≡ take (suc m) (x ∷ xs) ∷ lines (drop (suc m) (x ∷ xs))) k (ap (put x) (h (omega arith)))

first_ended : (bytes : List ℕ) → position_or_len (λ b. b == 10) bytes < length bytes
    → lines bytes ≡ take (suc (position_or_len (λ b. b == 10) bytes)) bytes ∷ lines (drop (suc (position_or_len (λ b. b == 10) bytes)) bytes)
first_ended [] lt = absurd (omega arith)
first_ended (x ∷ xs) lt = ended_by (x == 10) x xs (position_or_len (λ b. b == 10) xs) (first_ended xs) lt

open_by : (t : Bool) (x : ℕ) (xs : List ℕ) (n : ℕ) → (n ≡ length xs → 0 < length xs → lines xs ≡ xs ∷ [])
    → cond (not t) (1 + n) 0 ≡ suc (length xs)
    → cond t ((x ∷ []) ∷ lines xs) (put x (lines xs)) ≡ (x ∷ xs) ∷ []
open_by true x xs n h e = absurd (omega arith)
open_by false x [] n h e = refl
open_by false x (y ∷ ys) n h e = ap (put x) (h (omega arith) (omega arith))

first_open : (bytes : List ℕ) → position_or_len (λ b. b == 10) bytes ≡ length bytes → 0 < length bytes → lines bytes ≡ bytes ∷ []
first_open [] e some = absurd (omega arith)
first_open (x ∷ xs) e some = open_by (x == 10) x xs (position_or_len (λ b. b == 10) xs) (first_open xs) e

at_most : (t : Bool) (n m : ℕ) → n ≤ m → cond (not t) (1 + n) 0 ≤ suc m
at_most true n m h = omega arith
at_most false n m h = omega arith

within : (bytes : List ℕ) → position_or_len (λ b. b == 10) bytes ≤ length bytes
within [] = omega arith
within (x ∷ xs) = at_most (x == 10) (position_or_len (λ b. b == 10) xs) (length xs) (within xs)

lt_of : (b : Bool) (n len k : ℕ) → nat_lt n len ≡ b → cond b (Some n) None ≡ Some k → (k ≡ n) × (n < len)
lt_of true n len k e f = (sym (same_Some n k f), ltb-true n len e)
lt_of false n len k e f = absurd (none-some k f)

ge_of : (b : Bool) (n len : ℕ) → nat_lt n len ≡ b → (let o : Option ℕ = None in cond b (Some n) None ≡ o) → len ≤ n
ge_of true n len e f = absurd cc
ge_of false n len e f = ltb-false n len e

pub cut_at : (bytes line after : List ℕ) (k : ℕ) → Some k ≡ position (λ b. b == 10) bytes → line ≡ take (k + 1) bytes
    → after ≡ drop (k + 1) bytes → lines bytes ≡ line ∷ lines after
cut_at bytes line after k e l a =
    let f = lt_of _ (position_or_len (λ b. b == 10) bytes) (length bytes) k refl (sym e) in
    let g = first_ended bytes f.1 in
    let h : suc (position_or_len (λ b. b == 10) bytes) ≡ k + 1 = omega (arith, f.0) in
    g ∙ (λ i. (ap (λ (m : ℕ). take m bytes) h ∙ sym l) i ∷ lines ((ap (λ (m : ℕ). drop m bytes) h ∙ sym a) i))

pub cut_none : (bytes after : List ℕ) → (let o : Option ℕ = None in o ≡ position (λ b. b == 10) bytes) → 0 < length bytes → length after ≡ 0
    → lines bytes ≡ bytes ∷ lines after
cut_none bytes after e some a =
    let f = ge_of _ (position_or_len (λ b. b == 10) bytes) (length bytes) refl (sym e) in
    let g = within bytes in
    first_open bytes (omega arith) some ∙ ap (λ (x : List ℕ). bytes ∷ lines x) (sym (nil_from_length after a))

-- ---- the first lines

-- one line more is passed over
pub more_lines : (count left : ℕ) (text rest line after : List ℕ) → 0 < left → rest ≡ line ++ after → lines rest ≡ line ∷ lines after
    → (let P : ℕ → List ℕ → Type 0 = λ n x. (front : List ℕ) × (text ≡ front ++ x) × (first_lines count text ≡ front ++ first_lines n x) in
    P left rest → P (left - 1) after)
more_lines count zero text rest line after some parts cut h = absurd (omega arith)
more_lines count (suc left) text rest line after some parts cut h = let less : left ≡ suc left - 1 = omega arith in (
  h.0 ++ line,
  h.1 ∙ ap (λ x. h.0 ++ x) parts ∙ sym (append_assoc h.0 line after),
  h.2 ∙ ap (λ (ls : List (List ℕ)). h.0 ++ concat (take (suc left) ls)) cut ∙ sym (append_assoc h.0 line (first_lines left after))
      ∙ ap (λ m. (h.0 ++ line) ++ first_lines m after) less,
)
