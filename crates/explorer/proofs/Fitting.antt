-- How a text is cut into lines, and its lines into what is told and what is left out.
use Rattle.std.proofs.Common.{◌≡◌, ◌≢◌, ℕ, zero, suc, ◌+◌, ◌-◌, ◌<◌, ◌≤◌, ◌⊎◌, inl, inr, Bool, true, false, cond, not, nat_lt, IsTrue}
use Rattle.std.proofs.Common.{List, [], ◌∷◌, ◌++◌, length, take, drop, max, flat_map, Option, Some, None, refl, sym, ap, subst, ◌∙◌, arith}
use Rattle.std.proofs.lemmas.List.{nil_from_length, append_assoc, append-nil, flat_map_more, take-append-drop, length-take}
use Rattle.std.proofs.lemmas.Option.{none-some, same_Some}
use Rattle.std.proofs.lemmas.Bool.{ltb-true, ltb-false, eqb-true, eq-eqb}
use Rattle.std.specs.Prelude.{◌==◌, position}
use Rattle.std.specs.List.{AllByRecursion, position_or_len}
use Rattle.explorer.specs.Columns.{Line, IsCut, IsFitted, whole_line, told_line, may_be_row}

true_false : true ≡ false → ⊥
true_false e = absurd cc

no_feed_by : (t : Bool) (x : ℕ) (xs : List ℕ) (n : ℕ) → (x == 10) ≡ t
    → AllByRecursion (λ byte. byte ≢ 10) (take n xs) → AllByRecursion (λ byte. byte ≢ 10) (take (cond (not t) (1 + n) 0) (x ∷ xs))
no_feed_by true x xs n e all = tt
no_feed_by false x xs n e all =
    let k : suc n ≡ 1 + n = omega arith in
    subst (λ (m : ℕ). AllByRecursion (λ byte. byte ≢ 10) (take m (x ∷ xs))) k
    ((λ is. true_false (sym (eq-eqb x 10 is) ∙ e)), all)

no_feed : (xs : List ℕ) → AllByRecursion (λ byte. byte ≢ 10) (take (position_or_len (λ b. b == 10) xs) xs)
no_feed [] = tt
no_feed (x ∷ xs) = no_feed_by (x == 10) x xs (position_or_len (λ b. b == 10) xs) refl (no_feed xs)

feed_by : (t : Bool) (x : ℕ) (xs : List ℕ) (n : ℕ) → (x == 10) ≡ t → (n < length xs → take 1 (drop n xs) ≡ 10 ∷ [])
    → cond (not t) (1 + n) 0 < suc (length xs) → take 1 (drop (cond (not t) (1 + n) 0) (x ∷ xs)) ≡ 10 ∷ []
feed_by true x xs n e h lt = ap (λ (y : ℕ). y ∷ []) (eqb-true x 10 e)
feed_by false x xs n e h lt =
    let k : suc n ≡ 1 + n = omega arith in
    subst (λ (m : ℕ). take 1 (drop m (x ∷ xs)) ≡ 10 ∷ []) k (h (omega arith))

feed : (xs : List ℕ) → position_or_len (λ b. b == 10) xs < length xs → take 1 (drop (position_or_len (λ b. b == 10) xs) xs) ≡ 10 ∷ []
feed [] lt = absurd (omega arith)
feed (x ∷ xs) lt = feed_by (x == 10) x xs (position_or_len (λ b. b == 10) xs) refl (feed xs) lt

lt_of : (b : Bool) (n len k : ℕ) → nat_lt n len ≡ b → cond b (Some n) None ≡ Some k → (k ≡ n) × (n < len)
lt_of true n len k e f = (sym (same_Some n k f), ltb-true n len e)
lt_of false n len k e f = absurd (none-some k f)

ge_of : (b : Bool) (n len : ℕ) → nat_lt n len ≡ b → (let o : Option ℕ = None in cond b (Some n) None ≡ o) → len ≤ n
ge_of true n len e f = absurd cc
ge_of false n len e f = ltb-false n len e

take_all : (xs : List ℕ) (n : ℕ) → length xs ≤ n → take n xs ≡ xs
take_all [] zero le = refl
take_all [] (suc n) le = refl
take_all (x ∷ xs) zero le = absurd (omega arith)
take_all (x ∷ xs) (suc n) le = ap (λ (ys : List ℕ). x ∷ ys) (take_all xs n (omega arith))

-- none stands before the first
pub none_before : (text : List ℕ) (k : ℕ) → Some k ≡ position (λ b. b == 10) text → AllByRecursion (λ byte. byte ≢ 10) (take k text)
none_before text k e =
    let f = lt_of _ (position_or_len (λ b. b == 10) text) (length text) k refl (sym e) in
    subst (λ (n : ℕ). AllByRecursion (λ byte. byte ≢ 10) (take n text)) (sym f.0) (no_feed text)

-- it is one
pub is_feed : (text : List ℕ) (k : ℕ) → Some k ≡ position (λ b. b == 10) text → take (k + 1 - k) (drop k text) ≡ 10 ∷ []
is_feed text k e =
    let f = lt_of _ (position_or_len (λ b. b == 10) text) (length text) k refl (sym e) in
    let one : 1 ≡ k + 1 - k = omega arith in
    subst (λ (m : ℕ). take m (drop k text) ≡ 10 ∷ []) one
    (subst (λ (n : ℕ). take 1 (drop n text) ≡ 10 ∷ []) (sym f.0) (feed text f.1))

-- where there is none, none stands in it
pub none_in : (text : List ℕ) → (let o : Option ℕ = None in o ≡ position (λ b. b == 10) text) → AllByRecursion (λ byte. byte ≢ 10) text
none_in text e =
    let f = ge_of _ (position_or_len (λ b. b == 10) text) (length text) refl (sym e) in
    subst (λ (xs : List ℕ). AllByRecursion (λ byte. byte ≢ 10) xs) (take_all text (position_or_len (λ b. b == 10) text) f) (no_feed text)

-- so much of the text is told, up to here
abbrev pub StandsAt : ℕ → List ℕ → List ℕ → List ℕ → Type 0
StandsAt most text rest told = (lines : List Line) × AllByRecursion (IsCut most) lines
    × (text ≡ flat_map whole_line lines ++ rest) × (told ≡ flat_map told_line lines)

pub begins : (most : ℕ) (text : List ℕ) → StandsAt most text text []
begins most text = ([], tt, refl, refl)

all_more : (most : ℕ) (lines : List Line) (l : Line) → AllByRecursion (IsCut most) lines → IsCut most l → AllByRecursion (IsCut most) (lines ++ l ∷ [])
all_more most [] l all is = (is, tt)
all_more most (x ∷ xs) l (first, all) is = (first, all_more most xs l all is)

ended_of : (left end : List ℕ) (P Q : Type 0) → (end ≡ 10 ∷ []) ⊎ (end ≡ []) → (left ≡ []) ⊎ ((end ≢ []) × P × Q)
    → (end ≡ 10 ∷ []) ⊎ ((end ≡ []) × (left ≡ []))
ended_of left end P Q (inl is) cut = inl is
ended_of left end P Q (inr none) (inl whole) = inr (none, whole)
ended_of left end P Q (inr none) (inr (some, p, q)) = absurd (some none)

cut_of : (left end : List ℕ) (P Q : Type 0) → (left ≡ []) ⊎ ((end ≢ []) × P × Q) → (left ≡ []) ⊎ (P × Q)
cut_of left end P Q (inl whole) = inl whole
cut_of left end P Q (inr (some, p, q)) = inr (p, q)

-- and so on to the next line
pub goes_on : (most : ℕ) (text rest told line end behind kept : List ℕ) → StandsAt most text rest told
    → rest ≡ (line ++ end) ++ behind → AllByRecursion (λ byte. byte ≢ 10) line → (end ≡ 10 ∷ []) ⊎ (end ≡ [])
    → ((left : List ℕ) × (line ≡ kept ++ left) × ((left ≡ []) ⊎ ((end ≢ []) × IsTrue (may_be_row line) × (length kept ≤ max most 4))))
    → StandsAt most text behind ((told ++ kept) ++ end)
goes_on most text rest told line end behind kept (lines, all, whole, so_far) parts one ends (left, of, cut) =
    let l : Line = record { kept = kept; left = left; ended = end } in
    let P : Type 0 = IsTrue (may_be_row line) in
    let Q : Type 0 = length kept ≤ max most 4 in
    let is : IsCut most l = record {
      one = subst (λ (xs : List ℕ). AllByRecursion (λ byte. byte ≢ 10) xs) of one;
      ended = ended_of left end P Q ends cut;
      cut = cut_of left end (IsTrue (may_be_row (kept ++ left))) Q
          (subst (λ (xs : List ℕ). (left ≡ []) ⊎ ((end ≢ []) × IsTrue (may_be_row xs) × (length kept ≤ max most 4))) of cut);
    } in (
      lines ++ l ∷ [],
      all_more most lines l all is,
      whole ∙ ap (λ (xs : List ℕ). flat_map whole_line lines ++ xs) (parts ∙ ap (λ (xs : List ℕ). (xs ++ end) ++ behind) of)
          ∙ sym (append_assoc (flat_map whole_line lines) ((kept ++ left) ++ end) behind)
          ∙ ap (λ (xs : List ℕ). xs ++ behind) (flat_map_more whole_line [] lines l),
      append_assoc told kept end ∙ ap (λ (xs : List ℕ). xs ++ (kept ++ end)) so_far ∙ flat_map_more told_line [] lines l,
    )

pub ends : (most : ℕ) (text rest told : List ℕ) → StandsAt most text rest told → length rest ≡ 0 → IsFitted most text told
ends most text rest told (lines, all, whole, so_far) none =
    (lines, all, whole ∙ ap (λ (xs : List ℕ). flat_map whole_line lines ++ xs) (nil_from_length rest none) ∙ append-nil (flat_map whole_line lines), so_far)

-- a beginning of a beginning of a row is told
pub cut_short : (line end kept : List ℕ) (at most : ℕ) → ((x : List ℕ) × (take at line ≡ kept ++ x)) → length kept ≤ at
    → at ≤ max most 4 → end ≢ [] → IsTrue (may_be_row line)
    → (left : List ℕ) × (line ≡ kept ++ left) × ((left ≡ []) ⊎ ((end ≢ []) × IsTrue (may_be_row line) × (length kept ≤ max most 4)))
cut_short line end kept at most (x, is) short within some row = (
  x ++ drop at line,
  sym (take-append-drop at line) ∙ ap (λ (xs : List ℕ). xs ++ drop at line) is ∙ append_assoc kept x (drop at line),
  inr (some, row, omega (arith, short, within)),
)
