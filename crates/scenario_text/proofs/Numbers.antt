-- A number is read from its digits, and from nothing else.
use Rattle.std.proofs.Common.{◌≡◌, ◌≢◌, ℕ, zero, suc, ◌+◌, ◌*◌, ◌/◌, ◌%◌, ◌^◌, ◌<◌, ◌≤◌, List, [], ◌∷◌}
use Rattle.std.proofs.Common.{◌++◌, length, get_or, Option, Some, None, Result, Ok}
use Rattle.std.proofs.Common.{Err, refl, sym, ap, subst, ◌∙◌, append_assoc, arith}
use Rattle.std.specs.Str.Parse.{AllDigits, IsNumeral, digits_value, digits_value_after, ParsesUnsigned}
use Rattle.std.specs.Char.{digit_value}
use Rattle.std.specs.Fmt.{decimal}
use Rattle.std.proofs.lemmas.Fmt.{decimal_is_IsNumeral_wide, decimal_digit, decimal_step_wide, decimal_by_steps_wide, length-decimal-le_wide}
use Rattle.std.proofs.lemmas.List.{append-nil, length-append, get_or_append_left}
use Rattle.std.proofs.lemmas.Str.{digit_value_digit}
use Rattle.std.proofs.lemmas.Str.Parse.{IsNumeralModel, numerals_by_value, tells_digits, digit_from_value, digits_value_short, without_leading_plus_none}
use Rattle.std.proofs.Math.Nat.{pow-le-pow_right}
use Rattle.std.specs.Result.{result_ok}
use Rattle.scenario_text.specs.Phrases.{IsNumber, ReadsAs}

-- the value of digits without a leading zero is spelled by these digits: std has this below 2 ^ 64
le_value_after : (n : ℕ) (ds : List ℕ) → n ≤ digits_value_after 10 n ds
le_value_after n [] = omega arith
le_value_after n (c ∷ cs) = omega (arith, le_value_after (n * 10 + digit_value c) cs)

decimal_value_after : (n : ℕ) (ds : List ℕ) → 0 < n → AllDigits 10 ds → digits_value_after 10 n ds < 10 ^ 64
    → decimal (digits_value_after 10 n ds) ≡ decimal n ++ ds
decimal_value_after n [] some d small = sym (append-nil (decimal n))
decimal_value_after n (c ∷ cs) some d small =
    let m : ℕ = n * 10 + digit_value c in
    let k = digit_value_digit c (digit_from_value c d.0) in
    let front : m / 10 ≡ n = omega (arith, d.0) in
    let end : 48 + m % 10 ≡ c = omega (arith, d.0) in
    decimal_value_after m cs (omega arith) d.1 small
    ∙ ap (λ x. x ++ cs) (decimal_step_wide m (omega arith) (omega (arith, le_value_after m cs)) ∙ (λ i. decimal (front i) ++ (end i ∷ [])))
    ∙ append_assoc (decimal n) (c ∷ []) cs

pub decimal_of_value : (ds : List ℕ) → AllDigits 10 ds → 0 < length ds → (get_or ds 0 0 ≡ 48 → length ds ≡ 1)
    → digits_value 10 ds < 10 ^ 64 → decimal (digits_value 10 ds) ≡ ds
decimal_of_value [] d some lead small = absurd (omega arith)
decimal_of_value (c ∷ []) d some lead small =
    let k = digit_value_digit c (digit_from_value c d.0) in
    decimal_digit (0 * 10 + digit_value c) (omega (arith, d.0)) ∙ ap (λ x. x ∷ []) (omega arith)
decimal_of_value (c ∷ e ∷ cs) d some lead small =
    let k = digit_value_digit c (digit_from_value c d.0) in
    let no : c ≡ 48 → ⊥ = λ z. omega (arith, lead z) in
    let is : 48 + (0 * 10 + digit_value c) ≡ c = omega arith in
    decimal_value_after (0 * 10 + digit_value c) (e ∷ cs) (omega arith) d.1 small
    ∙ ap (λ x. x ++ (e ∷ cs)) (decimal_digit (0 * 10 + digit_value c) (omega (arith, d.0)) ∙ ap (λ x. x ∷ []) is)

pub first_decimal : (n : ℕ) → n < 10 ^ 64 → (0 < length (decimal n)) × (0 < n → 48 < get_or (decimal n) 0 0)
first_decimal = decimal_by_steps_wide (λ m ds. (0 < length ds) × (0 < m → 48 < get_or ds 0 0)) (λ m l. (omega arith, λ a. omega arith))
    (λ m ds l h. (
      omega (arith, length-append ds ((48 + m % 10) ∷ [])),
      λ a. omega (arith, get_or_append_left ds ((48 + m % 10) ∷ []) 0 0 h.0, h.1 (omega arith)),
    ))

pub decimal_digits : (n : ℕ) → n < 10 ^ 64 → AllDigits 10 (decimal n)
decimal_digits n small = (decimal_is_IsNumeral_wide n small).0.1

pub decimal_one : (m n : ℕ) → m < 10 ^ 64 → n < 10 ^ 64 → decimal m ≡ decimal n → m ≡ n
decimal_one m n p q e = sym (decimal_is_IsNumeral_wide m p).1 ∙ ap (digits_value 10) e ∙ (decimal_is_IsNumeral_wide n q).1

own : IsNumeralModel (AllDigits 10) (digits_value 10)
own = numerals_by_value _ tells_digits

first_digit : (ds : List ℕ) → AllDigits 10 ds → 0 < length ds → get_or ds 0 0 ≢ 43
first_digit [] d some e = absurd (omega arith)
first_digit (c ∷ cs) d some e = omega (arith, digit_from_value c d.0)

-- what a number's spelling is like
pub record IsPlain (most : ℕ) (ds : List ℕ) : Type 0 where
  pub some : 0 < length ds
  pub short : length ds ≤ most
  pub no_zero : get_or ds 0 0 ≡ 48 → length ds ≡ 1
  pub no_plus : get_or ds 0 0 ≢ 43

is_zero : (n h : ℕ) → (0 < n → 48 < h) → h ≡ 48 → n ≡ 0
is_zero zero h f e = refl
is_zero (suc n) h f e = absurd (omega (arith, f (omega arith)))

wide_of : (most n : ℕ) → most ≤ 20 → n < 10 ^ most → n < 10 ^ 64
wide_of most n few h = let p : 10 ^ most ≤ 10 ^ 20 = pow-le-pow_right {n = 10} (omega arith) few in omega arith

number_is_plain : (most n : ℕ) (ds : List ℕ) → 0 < most → most ≤ 20 → IsNumber most ds n → IsPlain most ds
number_is_plain most n ds some few h =
    let wide : n < 10 ^ 64 = wide_of most n few h.0 in
    let f = first_decimal n wide in
    let d = decimal_digits n wide in
    let zero_is : get_or (decimal n) 0 0 ≡ 48 → length (decimal n) ≡ 1
    = (λ z. ap (λ (m : ℕ). length (decimal m)) (is_zero n _ f.1 z) ∙ ap (λ (x : List ℕ). length x) (decimal_digit 0 (omega arith))) in
    let plain : IsPlain most (decimal n) = record {
      some = f.0;
      short = length-decimal-le_wide most n some h.0 wide;
      no_zero =
          zero_is;
      no_plus = first_digit (decimal n) d f.0;
    } in
    subst (IsPlain most) (sym h.1) plain

pub not_plain : (most : ℕ) (ds : List ℕ) → 0 < most → most ≤ 20 → (IsPlain most ds → ⊥) → ReadsAs (IsNumber most ds) None
not_plain most ds some few other n = (λ h. absurd (other (number_is_plain most n ds some few h)), λ e. absurd cc)

some_is : (m n : ℕ) → let o : Option ℕ = Some m in o ≡ Some n → m ≡ n
some_is m n e = cc

-- of plain digits the parser's answer is the number, if it has one
pub parsed_plain : {E : Type 0} (most : ℕ) (ds : List ℕ) (r : Result ℕ E) → 0 < most → most ≤ 20 → IsPlain most ds → ParsesUnsigned 128 10 ds r
    → ReadsAs (IsNumber most ds) (result_ok r)
parsed_plain most ds (Ok v) some few plain h n =
    let bare = without_leading_plus_none ds plain.no_plus in
    let digits : AllDigits 10 ds = subst (AllDigits 10) bare h.0.0.1 in
    let v-is : digits_value 10 ds ≡ v = ap (digits_value 10) (sym bare) ∙ sym h.1 in
    let low : digits_value 10 ds < 10 ^ most = digits_value_short own ds most digits plain.short in
    let wide : digits_value 10 ds < 10 ^ 64 = wide_of most _ few low in
    let spelled : decimal (digits_value 10 ds) ≡ ds = decimal_of_value ds digits plain.some plain.no_zero wide in
    let mine : IsNumber most ds v = (subst (λ (x : ℕ). x < 10 ^ most) v-is low, sym spelled ∙ ap decimal v-is) in (
      λ k. ap Some (decimal_one v n (wide_of most v few mine.0) (wide_of most n few k.0) (sym mine.1 ∙ k.1)),
      λ e. subst (IsNumber most ds) (some_is v n e) mine,
    )
parsed_plain most ds (Err e) some few plain h n = (
  λ k. absurd (h (let wide = wide_of most n few k.0 in
      let is : IsNumeral 10 (decimal n) × (digits_value 10 (decimal n) ≡ n) = decimal_is_IsNumeral_wide n wide in
      let p : 10 ^ most ≤ 10 ^ 20 = pow-le-pow_right {n = 10} (omega arith) few in
      let whole : IsNumeral 10 (decimal n) × (digits_value 10 (decimal n) < 2 ^ 128) = (is.0, omega arith) in
      let there : IsNumeral 10 ds × (digits_value 10 ds < 2 ^ 128)
      = subst (λ (x : List ℕ). IsNumeral 10 x × (digits_value 10 x < 2 ^ 128)) (sym k.1) whole in
      subst (λ (x : List ℕ). IsNumeral 10 x × (digits_value 10 x < 2 ^ 128)) (sym (without_leading_plus_none ds plain.no_plus)) there)),
  λ e. absurd cc,
)
