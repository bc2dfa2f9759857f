-- A number is read from its digits, and from nothing else.
use Rattle.std.proofs.Common.{◌≡◌, ℕ, zero, suc, ◌+◌, ◌-◌, ◌*◌, ◌/◌, ◌%◌, ◌^◌, ◌<◌, ◌≤◌, List, [], ◌∷◌}
use Rattle.std.proofs.Common.{◌++◌, length, get_or, take, drop, Option, Some, None}
use Rattle.std.proofs.Common.{refl, sym, ap, subst, ◌∙◌, append_assoc, arith}
use Rattle.std.specs.Str.Parse.{AllDigits, digits_value, digits_value_after}
use Rattle.std.specs.Char.{digit_value}
use Rattle.std.specs.Fmt.{decimal}
use Rattle.std.proofs.lemmas.Fmt.{decimal_is_IsNumeral_wide, decimal_digit, decimal_step_wide, decimal_by_steps_wide, length-decimal-le_wide}
use Rattle.std.proofs.lemmas.List.{append-nil, length-append, get_or_append_left}
use Rattle.std.proofs.lemmas.Str.{digit_value_digit}
use Rattle.std.proofs.lemmas.Str.Parse.{IsNumeralModel, numerals_by_value, tells_digits, digit_from_value, digit_at, digits_value_short, digits_value-take-le}
use Rattle.std.proofs.lemmas.Int.Digits.{digits_value_more}
use Rattle.journal.specs.Reading.{ReadsAs, IsDigit, EndsNumber, IsNumber}

-- the value of digits without a leading zero is spelled by these digits: std has this below 2 ^ 64
le_value_after : (n : ℕ) (ds : List ℕ) → n ≤ digits_value_after 10 n ds
le_value_after n [] = omega arith
le_value_after n (c ∷ cs) = omega (arith, le_value_after (n * 10 + digit_value c) cs)

decimal_value_after : (n : ℕ) (ds : List ℕ) → 0 < n → AllDigits 10 ds → digits_value_after 10 n ds < 10 ^ 64
    → decimal (digits_value_after 10 n ds) ≡ decimal n ++ ds
decimal_value_after n [] some d small = sym (append-nil (decimal n))
decimal_value_after n (c ∷ cs) some d small =
    let m : ℕ = n * 10 + digit_value c in
    let k = digit_value_digit c (digit_from_value c d.0) in
    let front : m / 10 ≡ n = omega (arith, d.0) in
    let end : 48 + m % 10 ≡ c = omega (arith, d.0) in
    decimal_value_after m cs (omega arith) d.1 small
    ∙ ap (λ x. x ++ cs) (decimal_step_wide m (omega arith) (omega (arith, le_value_after m cs)) ∙ (λ i. decimal (front i) ++ (end i ∷ [])))
    ∙ append_assoc (decimal n) (c ∷ []) cs

pub decimal_of_value : (ds : List ℕ) → AllDigits 10 ds → 0 < length ds → (get_or ds 0 0 ≡ 48 → length ds ≡ 1)
    → digits_value 10 ds < 10 ^ 64 → decimal (digits_value 10 ds) ≡ ds
decimal_of_value [] d some lead small = absurd (omega arith)
decimal_of_value (c ∷ []) d some lead small =
    let k = digit_value_digit c (digit_from_value c d.0) in
    decimal_digit (0 * 10 + digit_value c) (omega (arith, d.0)) ∙ ap (λ x. x ∷ []) (omega arith)
decimal_of_value (c ∷ e ∷ cs) d some lead small =
    let k = digit_value_digit c (digit_from_value c d.0) in
    let no : c ≡ 48 → ⊥ = λ z. omega (arith, lead z) in
    let is : 48 + (0 * 10 + digit_value c) ≡ c = omega arith in
    decimal_value_after (0 * 10 + digit_value c) (e ∷ cs) (omega arith) d.1 small
    ∙ ap (λ x. x ++ (e ∷ cs)) (decimal_digit (0 * 10 + digit_value c) (omega (arith, d.0)) ∙ ap (λ x. x ∷ []) is)

pub first_decimal : (n : ℕ) → n < 10 ^ 64 → (0 < length (decimal n)) × (0 < n → 48 < get_or (decimal n) 0 0)
first_decimal = decimal_by_steps_wide (λ m ds. (0 < length ds) × (0 < m → 48 < get_or ds 0 0)) (λ m l. (omega arith, λ a. omega arith))
    (λ m ds l h. (
      omega (arith, length-append ds ((48 + m % 10) ∷ [])),
      λ a. omega (arith, get_or_append_left ds ((48 + m % 10) ∷ []) 0 0 h.0, h.1 (omega arith)),
    ))

pub decimal_digits : (n : ℕ) → n < 10 ^ 64 → AllDigits 10 (decimal n)
decimal_digits n small = (decimal_is_IsNumeral_wide n small).0.1

pub decimal_one : (m n : ℕ) → m < 10 ^ 64 → n < 10 ^ 64 → decimal m ≡ decimal n → m ≡ n
decimal_one m n p q e = sym (decimal_is_IsNumeral_wide m p).1 ∙ ap (digits_value 10) e ∙ (decimal_is_IsNumeral_wide n q).1

own : IsNumeralModel (AllDigits 10) (digits_value 10)
own = numerals_by_value _ tells_digits

-- what a number's spelling is like
pub record IsPlain (ds : List ℕ) : Type 0 where
  pub some : 0 < length ds
  pub short : length ds ≤ 20
  pub no_zero : get_or ds 0 0 ≡ 48 → length ds ≡ 1

is_zero : (n h : ℕ) → (0 < n → 48 < h) → h ≡ 48 → n ≡ 0
is_zero zero h f e = refl
is_zero (suc n) h f e = absurd (omega (arith, f (omega arith)))

number_is_plain : (n : ℕ) (ds : List ℕ) → IsNumber ds n → IsPlain ds
number_is_plain n ds h =
    let wide : n < 10 ^ 64 = omega (arith, h.0) in
    let f = first_decimal n wide in
    let zero_is : get_or (decimal n) 0 0 ≡ 48 → length (decimal n) ≡ 1
    = (λ z. ap (λ (m : ℕ). length (decimal m)) (is_zero n _ f.1 z) ∙ ap (λ (x : List ℕ). length x) (decimal_digit 0 (omega arith))) in
    let plain : IsPlain (decimal n) = record { some = f.0; short = length-decimal-le_wide 20 n (omega arith) h.0 wide; no_zero = zero_is } in
    subst IsPlain (sym h.1) plain

pub not_plain : (ds : List ℕ) → (IsPlain ds → ⊥) → ReadsAs (IsNumber ds) None
not_plain ds other n = (λ h. absurd (other (number_is_plain n ds h)), λ e. absurd cc)

some_is : (m n : ℕ) → let o : Option ℕ = Some m in o ≡ Some n → m ≡ n
some_is m n e = cc

-- the value of plain digits is the number
pub value_plain : (ds : List ℕ) → AllDigits 10 ds → IsPlain ds → ReadsAs (IsNumber ds) (Some (digits_value 10 ds))
value_plain ds digits plain n =
    let low : digits_value 10 ds < 10 ^ 20 = digits_value_short own ds 20 digits plain.short in
    let spelled : decimal (digits_value 10 ds) ≡ ds = decimal_of_value ds digits plain.some plain.no_zero (omega arith) in
    let mine : IsNumber ds (digits_value 10 ds) = (low, sym spelled) in (
      λ k. ap Some (decimal_one (digits_value 10 ds) n (omega arith) (omega (arith, k.0)) (sym mine.1 ∙ k.1)),
      λ e. subst (IsNumber ds) (some_is (digits_value 10 ds) n e) mine,
    )

-- ---- the digits in front of a text

digit_small : (c : ℕ) → 48 ≤ c → c < 58 → digit_value c < 10
digit_small c low high = omega (arith, digit_value_digit c (low, omega arith))

pub front_digits : (xs : List ℕ) (i : ℕ) → i ≤ length xs → ((k : ℕ) → k < i → IsDigit (get_or xs k 0)) → AllDigits 10 (take i xs)
front_digits xs zero le h = tt
front_digits [] (suc i) le h = absurd (omega arith)
front_digits (x ∷ xs) (suc i) le h =
    (digit_small x (h 0 (omega arith)).0 (h 0 (omega arith)).1, front_digits xs i (omega arith) (λ k lt. h (suc k) (omega arith)))

pub ends_at : (xs : List ℕ) (i : ℕ) → i < length xs → (IsDigit (get_or xs i 0) → ⊥) → EndsNumber (drop i xs)
ends_at [] i lt h = absurd (omega arith)
ends_at (x ∷ xs) zero lt h = h
ends_at (x ∷ xs) (suc i) lt h = ends_at xs i (omega arith) h

pub ends_all : (xs : List ℕ) → EndsNumber (drop (length xs) xs)
ends_all [] = tt
ends_all (x ∷ xs) = ends_all xs

-- ---- their value

pub digit_in : (xs : List ℕ) (i : ℕ) → AllDigits 10 xs → i < length xs → IsDigit (get_or xs i 0)
digit_in xs i d lt = let h = digit_at xs i d lt in (omega arith, omega arith)

pub value_more : (xs : List ℕ) (i : ℕ) → AllDigits 10 xs → i < length xs → digits_value 10 (take (i + 1) xs)
    ≡ digits_value 10 (take i xs) * 10 + (get_or xs i 0 - 48)
value_more xs i d lt = let h = digit_at xs i d lt in digits_value_more 10 xs i lt ∙ (let k = digit_value_digit (get_or xs i 0) h in omega arith)

pub value_low : (xs : List ℕ) (i : ℕ) → AllDigits 10 xs → length xs ≤ 20 → i < length xs → digits_value 10 (take (i + 1) xs) < 10 ^ 20
value_low xs i d few lt =
    let h = digits_value-take-le 10 xs (i + 1) (omega arith) in let low : digits_value 10 xs < 10 ^ 20 = digits_value_short own xs 20 d few in omega arith
