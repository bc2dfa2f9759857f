-- How the reading of a part becomes that of the whole.
use Rattle.std.proofs.Common.{◌≡◌, Bool, true, false, not, Bor, ℕ, ◌<◌, List, [], ◌∷◌, ◌++◌, Option, Some, None, refl, sym, ap, subst}
use Rattle.std.proofs.Common.{◌∙◌, arith}
use Rattle.std.specs.Option.{option_map}
use Rattle.std.specs.Str.Parse.{AllDigits}
use Rattle.std.specs.Fmt.{decimal}
use Rattle.std.proofs.lemmas.List.{append_cancel_left}
use Rattle.std.proofs.lemmas.Slice.Eq.{bytes_eq-Decides}
use Rattle.std.specs.Str.{bytes_eq}
use Rattle.std.proofs.lemmas.Str.Parse.{digit_from_value}
use Rattle.journal.specs.JournalLine.{IsShort, IsOneOf}
use Rattle.journal.specs.Reading.{ReadsAs, IsDigit, EndsNumber, PartsNumbers, IsSpelled, IsNumber, IsAfter, IsLast, with_number}
use Rattle.journal.proofs.Numbers.{decimal_digits}

pub nothing : {A : Type 0} (P : A → Type 0) → ((a : A) → P a → ⊥) → ReadsAs P None
nothing P none a = (λ p. absurd (none a p), λ e. absurd cc)

pub one : {A : Type 0} (Q : A → Type 0) (x : A) → Q x → ((a : A) → Q a → a ≡ x) → ReadsAs Q (Some x)
one Q x q only a = (λ p. ap Some (sym (only a p)), λ e. let same_one : x ≡ a = cc in subst Q same_one q)

pub found : {A : Type 0} (P : A → Type 0) (x : A) → ReadsAs P (Some x) → P x
found P x h = (h x).1 refl

pub only : {A : Type 0} (P : A → Type 0) (x a : A) → ReadsAs P (Some x) → P a → a ≡ x
only P x a h p = let e = (h a).0 p in cc

pub none : {A : Type 0} (P : A → Type 0) (a : A) → ReadsAs P None → P a → ⊥
none P a h p = let e = (h a).0 p in cc

pub failed : {A : Type 0} (P : A → Type 0) (o : Option A) → o ≡ None → ReadsAs P None → ReadsAs P o
failed {A} P o e h = subst (λ (x : Option A). ReadsAs P x) (sym e) h

pub failed_pair : (P : ℕ × List ℕ → Type 0) (o : Option (ℕ × Bor (List ℕ))) → o ≡ None → ReadsAs P None
    → ReadsAs P (option_map (λ z. (z.0, z.1.now)) o)
failed_pair P o e h = subst (λ (x : Option (ℕ × Bor (List ℕ))). ReadsAs P (option_map (λ z. (z.0, z.1.now)) x)) (sym e) h

-- ---- digits in front of a text, and the rest, are one pair

is_digit : (c : ℕ) (cs : List ℕ) → AllDigits 10 (c ∷ cs) → IsDigit c
is_digit c cs d = let k = digit_from_value c d.0 in (omega arith, omega arith)

pub runs_one : (xs ys a b : List ℕ) → AllDigits 10 xs → AllDigits 10 ys → EndsNumber a → EndsNumber b
    → xs ++ a ≡ ys ++ b → (xs ≡ ys) × (a ≡ b)
runs_one [] [] a b p q ea eb e = (refl, e)
runs_one [] (y ∷ ys) [] b p q ea eb e = absurd cc
runs_one [] (y ∷ ys) (c ∷ cs) b p q ea eb e = let same : c ≡ y = cc in absurd (ea (subst IsDigit (sym same) (is_digit y ys q)))
runs_one (x ∷ xs) [] a [] p q ea eb e = absurd cc
runs_one (x ∷ xs) [] a (c ∷ cs) p q ea eb e = let same : x ≡ c = cc in absurd (eb (subst IsDigit same (is_digit x xs p)))
runs_one (x ∷ xs) (y ∷ ys) a b p q ea eb e =
    let head : x ≡ y = cc in
    let tail : xs ++ a ≡ ys ++ b = cc in
    let r = runs_one xs ys a b p.1 q.1 ea eb tail in
    ((λ i. head i ∷ r.0 i), r.1)

-- ---- a number behind a word

pub after_made : (word text behind digits rest : List ℕ) (n : ℕ) → text ≡ word ++ behind → behind ≡ digits ++ rest → AllDigits 10 digits
    → EndsNumber rest → ReadsAs (IsNumber digits) (Some n)
    → ReadsAs (IsAfter IsShort word text) (Some (n, rest))
after_made word text behind digits rest n e w d ends h =
    let f = found (IsNumber digits) n h in
    one (IsAfter IsShort word text) (n, rest) (f.0, e ∙ ap (λ (x : List ℕ). word ++ x) (w ∙ ap (λ (x : List ℕ). x ++ rest) f.1), ends)
    (λ z q.
    let r = runs_one digits (decimal z.0) rest z.1 d (decimal_digits z.0 (omega (arith, q.0))) ends q.2
    (sym w ∙ append_cancel_left word behind (decimal z.0 ++ z.1) (sym e ∙ q.1)) in
    let m : z.0 ≡ n = only (IsNumber digits) n z.0 h (q.0, r.0) in
    (λ i. (m i, sym r.1 i)))

pub after_no_number : (word text behind digits rest : List ℕ) → text ≡ word ++ behind → behind ≡ digits ++ rest → AllDigits 10 digits
    → EndsNumber rest → ReadsAs (IsNumber digits) None
    → ReadsAs (IsAfter IsShort word text) None
after_no_number word text behind digits rest e w d ends h =
    nothing (IsAfter IsShort word text)
    (λ z q.
    let r = runs_one digits (decimal z.0) rest z.1 d (decimal_digits z.0 (omega (arith, q.0))) ends q.2
    (sym w ∙ append_cancel_left word behind (decimal z.0 ++ z.1) (sym e ∙ q.1)) in
    none (IsNumber digits) z.0 h (q.0, r.0))

-- ---- a number behind a word, and more of which S holds, spelled by f

module _ {A : Type 0} (S0 : ℕ → Type 0) (S : A → Type 0) (f : A → List ℕ) where
  pub more_made : (word text rest : List ℕ) (n : ℕ) (x : A) → ((a : A) → EndsNumber (f a)) → ReadsAs (IsAfter S0 word text) (Some (n, rest))
      → ReadsAs (IsSpelled S f rest) (Some x)
      → ReadsAs (IsSpelled (λ (z : ℕ × A). S0 z.0 × S z.1) (with_number word f) text) (Some (n, x))
  more_made word text rest n x ends h k =
      let g = found (IsAfter S0 word text) (n, rest) h in
      let s = found (IsSpelled S f rest) x k in
      one (IsSpelled (λ (z : ℕ × A). S0 z.0 × S z.1) (with_number word f) text) (n, x)
      ((g.0, s.0), g.1 ∙ ap (λ (y : List ℕ). word ++ (decimal n ++ y)) s.1)
      (λ z q.
      let same : (let it : ℕ × List ℕ = (z.0, f z.1) in it ≡ (n, rest)) = only (IsAfter S0 word text) (n, rest) (z.0, f z.1) h (q.0.0, q.1, ends z.1) in
      let behind : rest ≡ f z.1 = sym (ap (λ (y : ℕ × List ℕ). y.1) same) in
      let more : z.1 ≡ x = only (IsSpelled S f rest) x z.1 k (q.0.1, behind) in
      let number : z.0 ≡ n = ap (λ (y : ℕ × List ℕ). y.0) same in
      (λ i. (number i, more i)))

  pub more_none : (word text rest : List ℕ) (n : ℕ) → ((a : A) → EndsNumber (f a))
      → ReadsAs (IsAfter S0 word text) (Some (n, rest)) → ReadsAs (IsSpelled S f rest) None
      → ReadsAs (IsSpelled (λ (z : ℕ × A). S0 z.0 × S z.1) (with_number word f) text) None
  more_none word text rest n ends h k =
      nothing (IsSpelled (λ (z : ℕ × A). S0 z.0 × S z.1) (with_number word f) text)
      (λ z q.
      let same : (let it : ℕ × List ℕ = (z.0, f z.1) in it ≡ (n, rest)) = only (IsAfter S0 word text) (n, rest) (z.0, f z.1) h (q.0.0, q.1, ends z.1) in
      let behind : rest ≡ f z.1 = sym (ap (λ (y : ℕ × List ℕ). y.1) same) in
      none (IsSpelled S f rest) z.1 k (q.0.1, behind))

  pub none_after : (word text : List ℕ) → ((a : A) → EndsNumber (f a)) → ReadsAs (IsAfter S0 word text) None
      → ReadsAs (IsSpelled (λ (z : ℕ × A). S0 z.0 × S z.1) (with_number word f) text) None
  none_after word text ends h =
      nothing (IsSpelled (λ (z : ℕ × A). S0 z.0 × S z.1) (with_number word f) text)
      (λ z q. none (IsAfter S0 word text) (z.0, f z.1) h (q.0.0, q.1, ends z.1))

-- what begins with a word that parts numbers ends a number
pub parts : (word more : List ℕ) → PartsNumbers word → EndsNumber (word ++ more)
parts [] more p = absurd p
parts (c ∷ cs) more p = p

-- ---- one of so many things

pub index_made : (count : ℕ) (word text rest : List ℕ) (n : ℕ) → n < count → ReadsAs (IsAfter IsShort word text) (Some (n, rest))
    → ReadsAs (IsAfter (IsOneOf count) word text) (Some (n, rest))
index_made count word text rest n lt h =
    let f = found (IsAfter IsShort word text) (n, rest) h in
    one (IsAfter (IsOneOf count) word text) (n, rest) ((f.0, lt), f.1, f.2) (λ z q. only (IsAfter IsShort word text) (n, rest) z h (q.0.0, q.1, q.2))

-- ---- a number between a word and the end

not_both : (r b : Bool) → r ≡ not b → r ≡ true → b ≡ true → ⊥
not_both r true e t s = cc
not_both r false e t s = cc

must_be : (r b : Bool) → r ≡ not b → r ≡ false → b ≡ true
must_be r true e t = refl
must_be r false e t = cc

pub differ : (r : Bool) (xs ys : List ℕ) → r ≡ not (bytes_eq xs ys) → r ≡ true → xs ≡ ys → ⊥
differ r xs ys e t same = not_both r (bytes_eq xs ys) e t ((bytes_eq-Decides xs ys).1 same)

pub agree : (r : Bool) (xs ys : List ℕ) → r ≡ not (bytes_eq xs ys) → r ≡ false → xs ≡ ys
agree r xs ys e t = (bytes_eq-Decides xs ys).0 (must_be r (bytes_eq xs ys) e t)

pub last_none : (word end text : List ℕ) → EndsNumber end → ReadsAs (IsAfter IsShort word text) None → ReadsAs (IsLast word end text) None
last_none word end text ends h = nothing (IsLast word end text) (λ n q. none (IsAfter IsShort word text) (n, end) h (q.0, q.1, ends))

pub last_other : (word end text rest : List ℕ) (n : ℕ) → EndsNumber end → ReadsAs (IsAfter IsShort word text) (Some (n, rest))
    → (rest ≡ end → ⊥) → ReadsAs (IsLast word end text) None
last_other word end text rest n ends h other =
    nothing (IsLast word end text)
    (λ m q. other (sym (ap (λ (y : ℕ × List ℕ). y.1) (only (IsAfter IsShort word text) (n, rest) (m, end) h (q.0, q.1, ends)))))

pub last_made : (word end text rest : List ℕ) (n : ℕ) → EndsNumber end → ReadsAs (IsAfter IsShort word text) (Some (n, rest)) → rest ≡ end
    → ReadsAs (IsLast word end text) (Some n)
last_made word end text rest n ends h same =
    let f = found (IsAfter IsShort word text) (n, rest) h in
    one (IsLast word end text) n (f.0, f.1 ∙ ap (λ (y : List ℕ). word ++ (decimal n ++ y)) same)
    (λ m q. ap (λ (y : ℕ × List ℕ). y.0) (only (IsAfter IsShort word text) (n, rest) (m, end) h (q.0, q.1, ends)))
