-- How the words of a line are found, and what one word is.
use Rattle.std.proofs.Common.{◌≡◌, ◌≢◌, ℕ, zero, suc, ◌^◌, ◌<◌, Bool, true, false, cond, not, eqb, List, [], ◌∷◌, ◌++◌, length}
use Rattle.std.proofs.Common.{get_or, Option, Some, None, Bor}
use Rattle.std.proofs.Common.{refl, sym, ap, subst, ◌∙◌, append_assoc, ne_eqb, arith, inr}
use Rattle.std.specs.Prelude.{codes, ◌&&◌, nat_lt}
use Rattle.std.specs.List.{list_all}
use Rattle.std.specs.Str.{bytes_eq}
use Rattle.std.specs.Fmt.{decimal}
use Rattle.std.proofs.lemmas.Slice.Eq.{bytes_eq-Decides}
use Rattle.std.proofs.lemmas.List.{append_cancel_left, append_cancel_right, append-nil}
use Rattle.std.proofs.lemmas.Str.Parse.{digit_at}
use Rattle.std.proofs.lemmas.Str.Pattern.{IsSplitOnceResult, split_after, split_parts}
use Rattle.scenario_text.specs.Phrases.{ReadsAs, IsNumber}
use Rattle.scenario_text.proofs.Numbers.{decimal_digits, first_decimal}
use Rattle.scenario_text.proofs.Parts.{nothing, one, found, only, none, lacks}
use Rattle.program_text.specs.declared.words.Number.{Number}
use Rattle.program_text.specs.declared.words.Number.TheVariants.{Plus, Minus}
use Rattle.program_text.specs.declared.words.SpelledOperand.{SpelledOperand}
use Rattle.program_text.specs.declared.words.SpelledOperand.TheVariants as operand
use Rattle.program_text.specs.declared.words.SpelledPlace.{SpelledPlace}
use Rattle.program_text.specs.Words.{without_comment, put, parts_of, not_empty, is_letter, is_inside, are_inside, is_plain, IsNameText, IsName, number_text}
use Rattle.program_text.specs.Words.{HasNumberForm, IsNumberWord, operand_text, HasOperandForm, IsOperand, index_text, HasIndexForm, IsPlace}

abbrev pub Lacks : ℕ → List ℕ → Type 0
Lacks c xs = (i : ℕ) → i < length xs → get_or xs i 0 ≢ c

other : {A : Type 0} (t : Bool) (a b : A) → t ≡ false → cond t a b ≡ b
other true a b e = absurd cc
other false a b e = refl

lacks_next : (c x : ℕ) (xs : List ℕ) → Lacks c (x ∷ xs) → Lacks c xs
lacks_next c x xs h i lt = h (suc i) (omega arith)

-- ---- comments

pub comment_cut : (xs ys : List ℕ) → Lacks 35 xs → without_comment (xs ++ (35 ∷ ys)) ≡ xs
comment_cut [] ys h = refl
comment_cut (x ∷ xs) ys h =
    other (eqb x 35) [] (x ∷ without_comment (xs ++ (35 ∷ ys))) (ne_eqb x 35 (h 0 (omega arith)))
    ∙ ap (λ (l : List ℕ). x ∷ l) (comment_cut xs ys (lacks_next 35 x xs h))

pub comment_none : (xs : List ℕ) → Lacks 35 xs → without_comment xs ≡ xs
comment_none [] h = refl
comment_none (x ∷ xs) h =
    other (eqb x 35) [] (x ∷ without_comment xs) (ne_eqb x 35 (h 0 (omega arith))) ∙ ap (λ (l : List ℕ). x ∷ l)
    (comment_none xs (lacks_next 35 x xs h))

-- ---- parts between spaces

pub parts_cut : (xs ys : List ℕ) → Lacks 32 xs → parts_of (xs ++ (32 ∷ ys)) ≡ xs ∷ parts_of ys
parts_cut [] ys h = refl
parts_cut (x ∷ xs) ys h =
    other (eqb x 32) ([] ∷ parts_of (xs ++ (32 ∷ ys))) (put x (parts_of (xs ++ (32 ∷ ys)))) (ne_eqb x 32 (h 0 (omega arith)))
    ∙ ap (put x) (parts_cut xs ys (lacks_next 32 x xs h))

pub parts_none : (xs : List ℕ) → Lacks 32 xs → parts_of xs ≡ xs ∷ []
parts_none [] h = refl
parts_none (x ∷ xs) h =
    other (eqb x 32) ([] ∷ parts_of xs) (put x (parts_of xs)) (ne_eqb x 32 (h 0 (omega arith))) ∙ ap (put x) (parts_none xs (lacks_next 32 x xs h))

-- the first part and those behind it
pub first_part : (x : List ℕ) (ps : List (List ℕ)) → not_empty (x ∷ ps) ≡ not_empty (x ∷ []) ++ not_empty ps
first_part [] ps = refl
first_part (b ∷ bs) ps = refl

pub turn : (line rest word after : List ℕ) (words : List (List ℕ)) → not_empty (parts_of line) ≡ words ++ not_empty (parts_of rest)
    → rest ≡ word ++ (32 ∷ after) → Lacks 32 word
    → not_empty (parts_of line) ≡ (words ++ not_empty (word ∷ [])) ++ not_empty (parts_of after)
turn line rest word after words h e l =
    h ∙ ap (λ (x : List (List ℕ)). words ++ not_empty x) (ap parts_of e ∙ parts_cut word after l)
    ∙ ap (λ (x : List (List ℕ)). words ++ x) (first_part word (parts_of after))
    ∙ sym (append_assoc words (not_empty (word ∷ [])) (not_empty (parts_of after)))

pub last : (line rest : List ℕ) (words : List (List ℕ)) → not_empty (parts_of line) ≡ words ++ not_empty (parts_of rest) → Lacks 32 rest
    → not_empty (parts_of line) ≡ words ++ not_empty (rest ∷ [])
last line rest words h l = h ∙ ap (λ (x : List (List ℕ)). words ++ not_empty x) (parts_none rest l)

-- ---- numbers

minus_is : (n : ℕ) (t : List ℕ) → n < 10 ^ 20 → decimal n ≡ 45 ∷ t → ⊥
minus_is n t small e = lacks n 45 (omega arith) (inr (omega arith)) 0 (subst (λ (x : List ℕ). 0 < length x) (sym e) (omega arith)) (ap (λ
    (x : List ℕ). get_or x 0 0) e)

pub number_plus : (word : List ℕ) (n : ℕ) → ReadsAs (IsNumber 20 word) (Some n) → ReadsAs (IsNumberWord word) (Some (Plus n))
number_plus word n h = let f = found (IsNumber 20 word) n h in one (IsNumberWord word) (Plus n) (record { form = f.0; spelled = f.1 }) is
  where
    is : (a : Number) → IsNumberWord word a → a ≡ Plus n
    is (Plus m) q = ap Plus (only (IsNumber 20 word) n m h (q.form, q.spelled))
    is (Minus m) q = let f = found (IsNumber 20 word) n h in absurd (minus_is n (decimal m) f.0 (sym f.1 ∙ q.spelled))

pub number_minus : (word rest : List ℕ) (n : ℕ) → ReadsAs (IsNumber 20 word) None → word ≡ codes "-" ++ rest → ReadsAs (IsNumber 20 rest) (Some n)
    → (n ≡ 0 → ⊥) → ReadsAs (IsNumberWord word) (Some (Minus n))
number_minus word rest n absent e h some =
    let f = found (IsNumber 20 rest) n h in one (IsNumberWord word) (Minus n) (record {
      form = (omega arith, f.0);
      spelled = e ∙ ap (λ (x : List ℕ). codes "-" ++ x) f.1;
    }) is
  where
    is : (a : Number) → IsNumberWord word a → a ≡ Minus n
    is (Plus m) q = absurd (none (IsNumber 20 word) m absent (q.form, q.spelled))
    is (Minus m) q = ap Minus (only (IsNumber 20 rest) n m h (q.form.1, append_cancel_left (codes "-") rest (decimal m) (sym e ∙ q.spelled)))

-- a number begins with a digit or a minus
pub number_low : (n : Number) → HasNumberForm n → get_or (number_text n) 0 0 < 58
number_low (Plus n) h = let d = digit_at (decimal n) 0 (decimal_digits n (omega arith)) ((first_decimal n (omega arith)).0) in omega (arith, d)
number_low (Minus n) h = omega arith

-- ---- names

both : (a b : Bool) → (a && b) ≡ true → (a ≡ true) × (b ≡ true)
both true b e = (refl, e)
both false b e = absurd cc

plain_parts : (name : List ℕ) → is_plain name ≡ true → (is_letter (get_or name 0 0) ≡ true) × (are_inside name ≡ true)
plain_parts [] e = absurd cc
plain_parts (b ∷ bs) e =
    let f = both (is_letter b) (are_inside (b ∷ bs) && not (nat_lt 24 (length (b ∷ bs)))) e in
    (f.0, (both (are_inside (b ∷ bs)) (not (nat_lt 24 (length (b ∷ bs)))) f.1).0)

letter_high : (b : ℕ) → is_letter b ≡ true → 64 < b
letter_high b e = grind arith

pub name_high : (name : List ℕ) → IsNameText name → 64 < get_or name 0 0
name_high name h = letter_high (get_or name 0 0) (plain_parts name h.plain).0

inside_lacks : (c : ℕ) (name : List ℕ) → is_inside c ≡ false → list_all is_inside name ≡ true → Lacks c name
inside_lacks c [] out e i lt is = absurd (omega arith)
inside_lacks c (b ∷ bs) out e zero lt is = let f = both (is_inside b) (list_all is_inside bs) e in
    let g : is_inside c ≡ true = subst (λ (x : ℕ). is_inside x ≡ true) is f.0 in absurd cc
inside_lacks c (b ∷ bs) out e (suc i) lt is = inside_lacks c bs out (both (is_inside b) (list_all is_inside bs) e).1 i (omega arith) is

pub name_lacks : (c : ℕ) (name : List ℕ) → is_inside c ≡ false → IsNameText name → Lacks c name
name_lacks c name out h = inside_lacks c name out (plain_parts name h.plain).1

pub named : (word : List ℕ) → is_plain word ≡ true → word ≢ codes "me" → ReadsAs (IsName word) (Some word)
named word plain other_is = one (IsName word) word (record { form = record { plain = plain; other = other_is }; spelled = refl }) (λ a q. sym q.spelled)

-- ---- operands

number_or_me : (n : Number) → HasNumberForm n → number_text n ≡ codes "me" → ⊥
number_or_me n h e = omega (arith, number_low n h, ap (λ (x : List ℕ). get_or x 0 0) e)

number_or_name : (n : Number) (name : List ℕ) → HasNumberForm n → IsNameText name → number_text n ≡ name → ⊥
number_or_name n name h k e = omega (arith, number_low n h, name_high name k, ap (λ (x : List ℕ). get_or x 0 0) e)

pub operand_me : (word : List ℕ) → word ≡ codes "me" → ReadsAs (IsOperand word) (Some operand.Me)
operand_me word e = one (IsOperand word) operand.Me (record { form = tt; spelled = e }) is
  where
    is : (a : SpelledOperand) → IsOperand word a → a ≡ operand.Me
    is (operand.Number n) q = absurd (number_or_me n q.form (sym q.spelled ∙ e))
    is operand.Me q = refl
    is (operand.Name name) q = absurd (q.form.other (sym q.spelled ∙ e))

pub operand_number : (word : List ℕ) (n : Number) → ReadsAs (IsNumberWord word) (Some n) → ReadsAs (IsOperand word) (Some (operand.Number n))
operand_number word n h = let f = found (IsNumberWord word) n h in one (IsOperand word) (operand.Number n) (record { form = f.form; spelled = f.spelled }) is
  where
    is : (a : SpelledOperand) → IsOperand word a → a ≡ operand.Number n
    is (operand.Number m) q = ap operand.Number (only (IsNumberWord word) n m h (record { form = q.form; spelled = q.spelled }))
    is operand.Me q = let f = found (IsNumberWord word) n h in absurd (number_or_me n f.form (sym f.spelled ∙ q.spelled))
    is (operand.Name name) q = let f = found (IsNumberWord word) n h in absurd (number_or_name n name f.form q.form (sym f.spelled ∙ q.spelled))

pub operand_name : (word name : List ℕ) → (word ≡ codes "me" → ⊥) → ReadsAs (IsNumberWord word) None → ReadsAs (IsName word) (Some name)
    → ReadsAs (IsOperand word) (Some (operand.Name name))
operand_name word name me absent h = let f = found (IsName word) name h in one (IsOperand word) (operand.Name name) (record {
  form = f.form;
  spelled = f.spelled;
}) is
  where
    is : (a : SpelledOperand) → IsOperand word a → a ≡ operand.Name name
    is (operand.Number m) q = absurd (none (IsNumberWord word) m absent (record { form = q.form; spelled = q.spelled }))
    is operand.Me q = absurd (me q.spelled)
    is (operand.Name other_name) q = ap operand.Name (only (IsName word) name other_name h (record { form = q.form; spelled = q.spelled }))

pub operand_none : (word : List ℕ) → (word ≡ codes "me" → ⊥) → ReadsAs (IsNumberWord word) None
    → ReadsAs (IsName word) None → ReadsAs (IsOperand word) None
operand_none word me absent h = nothing (IsOperand word) is
  where
    is : (a : SpelledOperand) → IsOperand word a → ⊥
    is (operand.Number m) q = none (IsNumberWord word) m absent (record { form = q.form; spelled = q.spelled })
    is operand.Me q = me q.spelled
    is (operand.Name name) q = none (IsName word) name h (record { form = q.form; spelled = q.spelled })

-- ---- places

bracket_in : (xs ys : List ℕ) → Lacks 91 (xs ++ (91 ∷ ys)) → ⊥
bracket_in [] ys l = l 0 (omega arith) refl
bracket_in (b ∷ bs) ys l = bracket_in bs ys (lacks_next 91 b (bs ++ (91 ∷ ys)) l)

-- of a word with a `[` the name stands before the first
pub place_split : (word : List ℕ) (x : Bor (List ℕ) × Bor (List ℕ)) → IsSplitOnceResult 91 word (Some x) → (p : SpelledPlace) → IsPlace word p
    → (e : SpelledOperand) × (p.index ≡ Some e) × (x.0.now ≡ p.name) × (x.1.now ≡ operand_text e ++ codes "]") × HasOperandForm e
place_split word x h p q = at p.index refl q.form.1
  where
    at : (o : Option SpelledOperand) → p.index ≡ o → HasIndexForm o
        → (e : SpelledOperand) × (p.index ≡ Some e) × (x.0.now ≡ p.name) × (x.1.now ≡ operand_text e ++ codes "]") × HasOperandForm e
    at None i f =
        let whole : word ≡ p.name = q.spelled ∙ ap (λ (o : Option SpelledOperand). p.name ++ index_text o) i ∙ append-nil p.name in
        let s = split_parts 91 word (Some x) h (omega arith) in
        absurd (bracket_in x.0.now x.1.now (subst (Lacks 91) (sym whole ∙ s.0) (name_lacks 91 p.name refl q.form.0)))
    at (Some e) i f =
        let whole : word ≡ p.name ++ (91 ∷ (operand_text e ++ codes "]")) = q.spelled ∙ ap (λ (o : Option SpelledOperand). p.name ++ index_text o) i in
        let s = split_after 91 word p.name (operand_text e ++ codes "]") (Some x) h (omega arith) whole (name_lacks 91 p.name refl q.form.0) in
        (e, i, s.0, s.1, f)

-- without one the word is the name
plain_place : (word : List ℕ) → IsSplitOnceResult 91 word None → (p : SpelledPlace) → IsPlace word p → (p.index ≡ None) × IsName word p.name
plain_place word h p q = at p.index refl
  where
    at : (o : Option SpelledOperand) → p.index ≡ o → (p.index ≡ None) × IsName word p.name
    at None i = (i, record { form = q.form.0; spelled = q.spelled ∙ ap (λ (o : Option SpelledOperand). p.name ++ index_text o) i ∙ append-nil p.name })
    at (Some e) i =
        let whole : word ≡ p.name ++ (91 ∷ (operand_text e ++ codes "]")) = q.spelled ∙ ap (λ (o : Option SpelledOperand). p.name ++ index_text o) i in
        absurd (split_after 91 word p.name (operand_text e ++ codes "]") None h (omega arith) whole (name_lacks 91 p.name refl q.form.0))

pub place_plain : (word name : List ℕ) → IsSplitOnceResult 91 word None → ReadsAs (IsName word) (Some name)
    → ReadsAs (IsPlace word) (Some (record { name = name; index = None }))
place_plain word name h r =
    let f = found (IsName word) name r in
    one (IsPlace word) (record { name = name; index = None }) (record { form = (f.form, tt); spelled = f.spelled ∙ sym (append-nil name) })
    (λ p q. let k = plain_place word h p q in let same : p.name ≡ name = only (IsName word) name p.name r k.1 in
    (λ i. record { name = same i; index = k.0 i }))

pub place_no_name : (word : List ℕ) → IsSplitOnceResult 91 word None → ReadsAs (IsName word) None → ReadsAs (IsPlace word) None
place_no_name word h r = nothing (IsPlace word) (λ p q. none (IsName word) p.name r (plain_place word h p q).1)

pub place_indexed : (word index : List ℕ) (x : Bor (List ℕ) × Bor (List ℕ)) (name : List ℕ) (e : SpelledOperand) → IsSplitOnceResult 91 word (Some x)
    → ReadsAs (IsName x.0.now) (Some name) → x.1.now ≡ index ++ codes "]" → ReadsAs (IsOperand index) (Some e)
    → ReadsAs (IsPlace word) (Some (record { name = name; index = Some e }))
place_indexed word index x name e h rn back re =
    let fn = found (IsName x.0.now) name rn in
    let fe = found (IsOperand index) e re in
    let s = split_parts 91 word (Some x) h (omega arith) in
    one (IsPlace word) (record { name = name; index = Some e })
    (record {
      form = (fn.form, fe.form);
      spelled = s.0 ∙ ap (λ (y : List ℕ). y ++ (91 ∷ x.1.now)) fn.spelled ∙ ap (λ (y : List ℕ). name ++ (91 ∷ y)) (back
          ∙ ap (λ (y : List ℕ). y ++ codes "]") fe.spelled);
    })
    (λ p q.
    let k = place_split word x h p q in
    let same_name : p.name ≡ name = only (IsName x.0.now) name p.name rn (record { form = q.form.0; spelled = k.2 }) in
    let same_index : k.0 ≡ e = only (IsOperand index) e k.0 re (record {
      form = k.4;
      spelled = append_cancel_right index (operand_text k.0) (codes "]") (sym back ∙ k.3);
    }) in
    (λ i. record { name = same_name i; index = (k.1 ∙ ap Some same_index) i }))

pub place_bad_name : (word : List ℕ) (x : Bor (List ℕ) × Bor (List ℕ)) → IsSplitOnceResult 91 word (Some x) → ReadsAs (IsName x.0.now) None
    → ReadsAs (IsPlace word) None
place_bad_name word x h r = nothing (IsPlace word) (λ p q. let k = place_split word x h p q in none (IsName x.0.now) p.name r (record {
  form = q.form.0;
  spelled = k.2;
}))

pub place_open : (word : List ℕ) (x : Bor (List ℕ) × Bor (List ℕ)) → IsSplitOnceResult 91 word (Some x) → ((front : List ℕ)
    → x.1.now ≢ front ++ codes "]") → ReadsAs (IsPlace word) None
place_open word x h r = nothing (IsPlace word) (λ p q. let k = place_split word x h p q in r (operand_text k.0) k.3)

pub place_bad_index : (word index : List ℕ) (x : Bor (List ℕ) × Bor (List ℕ)) → IsSplitOnceResult 91 word (Some x) → x.1.now ≡ index ++ codes "]"
    → ReadsAs (IsOperand index) None → ReadsAs (IsPlace word) None
place_bad_index word index x h back r =
    nothing (IsPlace word) (λ p q. let k = place_split word x h p q in none (IsOperand index) k.0 r (record {
      form = k.4;
      spelled = append_cancel_right index (operand_text k.0) (codes "]") (sym back ∙ k.3);
    }))

-- ---- comparisons

pub equals : (r : Bool) (xs ys : List ℕ) → r ≡ bytes_eq xs ys → r ≡ true → xs ≡ ys
equals r xs ys e f = (bytes_eq-Decides xs ys).0 (sym e ∙ f)

pub unequal : (r : Bool) (xs ys : List ℕ) → r ≡ not (bytes_eq xs ys) → r ≡ true → xs ≡ ys → ⊥
unequal r xs ys e f g = let t = (bytes_eq-Decides xs ys).1 g in cc

pub equal : (r : Bool) (xs ys : List ℕ) → r ≡ not (bytes_eq xs ys) → r ≡ false → xs ≡ ys
equal r xs ys e f = (bytes_eq-Decides xs ys).0 (turned (bytes_eq xs ys) (sym e ∙ f))
  where
    turned : (b : Bool) → not b ≡ false → b ≡ true
    turned true e = refl
    turned false e = absurd cc
