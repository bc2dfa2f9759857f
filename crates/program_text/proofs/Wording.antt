-- Which line has these words.
use Rattle.std.proofs.Common.{◌≡◌, ◌≢◌, ℕ, zero, suc, ◌-◌, ◌<◌, ◌≤◌, List, [], ◌∷◌, ◌++◌, length, take, drop, get_or}
use Rattle.std.proofs.Common.{Option, Some, None, Bor, refl, sym, ap}
use Rattle.std.proofs.Common.{subst, ◌∙◌, arith}
use Rattle.std.specs.Prelude.{codes}
use Rattle.std.proofs.lemmas.List.{append_cancel_right}
use Rattle.scenario_text.specs.Phrases.{ReadsAs}
use Rattle.scenario_text.proofs.Parts.{nothing, one as one_of, found, only, none, same}
use Rattle.program_code.specs.declared.relation.Relation.{Relation}
use Rattle.program_code.specs.Signs.{IsRelation, relation_text}
use Rattle.program_text.specs.declared.reader.verb.Verb.{Verb}
use Rattle.program_text.specs.declared.words.SpelledOperand.{SpelledOperand}
use Rattle.program_text.specs.declared.lines.SpelledLine.{SpelledLine}
use Rattle.program_text.specs.declared.lines.SpelledLine.TheVariants.{Blank, Registers, Label}
use Rattle.program_text.specs.Words.{texts, IsName, IsOperand, operand_text}
use Rattle.program_text.specs.Verb.{verb_text, IsVerb}
use Rattle.program_text.specs.Lines.{verb_of, arguments_of, behind, line_words, AreWordsOf, AreArgumentsOf, IsLabel}
use Rattle.program_text.specs.Shapes.{AreThree, AreNames}
use Rattle.program_text.proofs.Forms.{AreJump}
use Rattle.program_text.proofs.Parts.{texts_length}
use Rattle.program_text.proofs.Verbs.{no_register, no_colon}

take_all : (ws : List (Bor (List ℕ))) (n : ℕ) → length ws ≤ n → take n ws ≡ ws
take_all [] zero le = refl
take_all [] (suc n) le = refl
take_all (w ∷ ws) zero le = absurd (omega arith)
take_all (w ∷ ws) (suc n) le = ap (λ (x : List (Bor (List ℕ))). w ∷ x) (take_all ws n (omega arith))

-- what stands behind the first word
abbrev pub others : List (Bor (List ℕ)) → List (List ℕ)
others ws = texts (take (length ws - 1) (drop 1 ws))

pub texts_first : (ws : List (Bor (List ℕ))) (d : Bor (List ℕ)) → 0 < length ws → texts ws ≡ (get_or ws 0 d).now ∷ others ws
texts_first [] d lt = absurd (omega arith)
texts_first (w ∷ ws) d lt = ap (λ (x : List (Bor (List ℕ))). w.now ∷ texts x) (sym (take_all ws (length (w ∷ ws) - 1) (omega arith)))

-- ---- a blank line

pub blank : (words : List (List ℕ)) → words ≡ [] → ReadsAs (AreWordsOf words) (Some Blank)
blank words e = one_of (AreWordsOf words) Blank (record { form = tt; spelled = e }) is
  where
    is : (l : SpelledLine) → AreWordsOf words l → l ≡ Blank
    is Blank q = refl
    is l q = let s = q.spelled in absurd cc

-- ---- a label

-- a line that has a verb
with_verb : (l : SpelledLine) (v : Verb) → verb_of l ≡ Some v → line_words l ≡ verb_text v ∷ arguments_of l
with_verb l v e = ap (λ (o : Option Verb). behind o (arguments_of l)) e

-- one that has none
verbless : (words : List (List ℕ)) (name : List ℕ) → IsLabel words name → (l : SpelledLine) → verb_of l ≡ None → AreWordsOf words l → l ≡ Label name
verbless words name h Blank e q = let s = q.spelled in let t = h.spelled in absurd cc
verbless words name h (Label other) e q = ap Label (append_cancel_right other name (codes ":") (let s = q.spelled in let t = h.spelled in cc))
verbless words name h (Registers []) e q = absurd (q.form.0 refl)
verbless words name h (Registers (n ∷ ns)) e q = let s = q.spelled in let t = h.spelled in absurd cc
verbless words name h l e q = absurd cc

labelled : (words : List (List ℕ)) (name : List ℕ) → IsLabel words name → (l : SpelledLine) → AreWordsOf words l → (o : Option Verb)
    → verb_of l ≡ o → l ≡ Label name
labelled words name h l q None e = verbless words name h l e q
labelled words name h l q (Some v) e =
    let s : words ≡ verb_text v ∷ arguments_of l = q.spelled ∙ with_verb l v e in
    let t = h.spelled in
    absurd (no_colon name v cc)

pub label : (words : List (List ℕ)) (name : List ℕ) → ReadsAs (IsLabel words) (Some name) → ReadsAs (AreWordsOf words) (Some (Label name))
label words name h =
    let f = found (IsLabel words) name h in
    one_of (AreWordsOf words) (Label name) (record { form = f.form; spelled = f.spelled }) (λ l q. labelled words name f l q (verb_of l) refl)

pub label_one : (words : List (List ℕ)) (word rest : List ℕ) (o : Option (List ℕ)) → words ≡ word ∷ [] → word ≡ rest ++ codes ":"
    → ReadsAs (IsName rest) o → ReadsAs (IsLabel words) o
label_one words word rest o e back h = same (IsName rest) (IsLabel words) o h
    (λ n p. record { form = p.form; spelled = e ∙ ap (λ (x : List ℕ). x ∷ []) (back ∙ ap (λ (x : List ℕ). x ++ codes ":") p.spelled) })
    (λ n q. record { form = q.form; spelled = append_cancel_right rest n (codes ":") (sym back ∙ (let s = q.spelled in cc)) })

pub label_none : (words : List (List ℕ)) (word : List ℕ) → words ≡ word ∷ []
    → ((front : List ℕ) → word ≢ front ++ codes ":") → ReadsAs (IsLabel words) None
label_none words word e h = nothing (IsLabel words) (λ n q. h n (let s = q.spelled in cc))

pub label_many : (words : List (List ℕ)) → (length words ≡ 1 → ⊥) → ReadsAs (IsLabel words) None
label_many words h = nothing (IsLabel words) (λ n q. h (ap (λ (x : List (List ℕ)). length x) q.spelled))

-- ---- registers

register_line : (words rest : List (List ℕ)) → words ≡ codes "register" ∷ rest → (l : SpelledLine) → AreWordsOf words l → ReadsAs (IsLabel words) None
    → (o : Option Verb) → verb_of l ≡ o
    → (names : List (List ℕ)) × (l ≡ Registers names) × AreNames rest names
register_line words rest e l q unlabelled (Some v) k =
    let s : words ≡ verb_text v ∷ arguments_of l = q.spelled ∙ with_verb l v k in
    absurd (no_register v cc)
register_line words rest e l q unlabelled None k = at l k q
  where
    at : (l : SpelledLine) → verb_of l ≡ None → AreWordsOf words l → (names : List (List ℕ)) × (l ≡ Registers names) × AreNames rest names
    at Blank k q = let s = q.spelled in absurd cc
    at (Label name) k q = absurd (none (IsLabel words) name unlabelled (record { form = q.form; spelled = q.spelled }))
    at (Registers names) k q = (names, refl, record { some = q.form.0; form = q.form.1; spelled = let s = q.spelled in cc })
    at l k q = absurd cc

pub registers : (words rest names : List (List ℕ)) → words ≡ codes "register" ∷ rest → ReadsAs (IsLabel words) None
    → ReadsAs (AreNames rest) (Some names) → ReadsAs (AreWordsOf words) (Some (Registers names))
registers words rest names e unlabelled h =
    let f = found (AreNames rest) names h in
    one_of (AreWordsOf words) (Registers names)
    (record { form = (f.some, f.form); spelled = e ∙ ap (λ (x : List (List ℕ)). codes "register" ∷ x) f.spelled })
    (λ l q. let k = register_line words rest e l q unlabelled (verb_of l) refl in k.1 ∙ ap Registers (only (AreNames rest) names k.0 h k.2))

-- ---- other lines

verb_line : (words rest : List (List ℕ)) (word : List ℕ) → words ≡ word ∷ rest
    → (word ≡ codes "register" → ⊥) → ReadsAs (IsLabel words) None
    → (l : SpelledLine) → AreWordsOf words l → (o : Option Verb) → verb_of l ≡ o
    → (v : Verb) × IsVerb word v × AreArgumentsOf v rest l
verb_line words rest word e other unlabelled l q (Some v) k =
    let s : words ≡ verb_text v ∷ arguments_of l = q.spelled ∙ with_verb l v k in
    (v, cc, record { verb_is = k; form = q.form; spelled = cc })
verb_line words rest word e other unlabelled l q None k = absurd (at l k q)
  where
    at : (l : SpelledLine) → verb_of l ≡ None → AreWordsOf words l → ⊥
    at Blank k q = let s = q.spelled in absurd cc
    at (Label name) k q = none (IsLabel words) name unlabelled (record { form = q.form; spelled = q.spelled })
    at (Registers names) k q = other (let s = q.spelled in cc)
    at l k q = absurd cc

pub formed : (words rest : List (List ℕ)) (word : List ℕ) (v : Verb) (o : Option SpelledLine) → words ≡ word ∷ rest → (word ≡ codes "register" → ⊥)
    → ReadsAs (IsLabel words) None → ReadsAs (IsVerb word) (Some v) → ReadsAs (AreArgumentsOf v rest) o
    → ReadsAs (AreWordsOf words) o
formed words rest word v o e other unlabelled h forms = same (AreArgumentsOf v rest) (AreWordsOf words) o forms
    (λ l p. record { form = p.form; spelled = e ∙ (λ i. (found (IsVerb word) v h) i ∷ p.spelled i) ∙ sym (with_verb l v p.verb_is) })
    (λ l q. let k = verb_line words rest word e other unlabelled l q (verb_of l) refl in
    subst (λ (u : Verb). AreArgumentsOf u rest l) (only (IsVerb word) v k.0 h k.1) k.2)

pub no_verb : (words rest : List (List ℕ)) (word : List ℕ) → words ≡ word ∷ rest
    → (word ≡ codes "register" → ⊥) → ReadsAs (IsLabel words) None
    → ReadsAs (IsVerb word) None → ReadsAs (AreWordsOf words) None
no_verb words rest word e other unlabelled h = nothing (AreWordsOf words) (λ l q. let k = verb_line words rest word e other unlabelled l q
    (verb_of l) refl in none (IsVerb word) k.0 h k.1)

-- ---- a jump where something holds

abbrev Compared : List (List ℕ) → SpelledOperand × Relation × SpelledOperand → Type 0
Compared words x = AreThree IsOperand IsRelation IsOperand words x

jump_parts : (a b c d e : Bor (List ℕ)) (x : SpelledOperand × Relation × SpelledOperand × List ℕ) → AreJump (texts (a ∷ b ∷ c ∷ d ∷ e ∷ [])) x
    → Compared (texts (a ∷ b ∷ c ∷ [])) (x.0, x.1, x.2) × (d.now ≡ codes "goto") × IsName e.now x.3
jump_parts a b c d e x h =
    let s = h.spelled in (
      record {
        u = operand_text x.0;
        v = relation_text x.1;
        w = operand_text x.2;
        words_are = ap (take 3) s;
        first = record { form = h.first; spelled = refl };
        second = refl;
        third = record { form = h.second; spelled = refl };
      },
      cc,
      record { form = h.label; spelled = cc },
    )

pub jump : (ws : List (Bor (List ℕ))) (x y : Bor (List ℕ)) (p : SpelledOperand) (r : Relation) (q : SpelledOperand) (label : List ℕ) → length ws ≡ 5
    → (get_or ws 3 x).now ≡ codes "goto"
    → (let z : SpelledOperand × Relation × SpelledOperand = (p, r, q) in ReadsAs (Compared (texts (take 3 ws))) (Some z))
    → ReadsAs (IsName (get_or ws 4 y).now) (Some label) → ReadsAs (AreJump (texts ws)) (Some (p, r, q, label))
jump (a ∷ b ∷ c ∷ d ∷ e ∷ []) x y p r q label len goto h n =
    let z : SpelledOperand × Relation × SpelledOperand = (p, r, q) in
    let f = found (Compared (texts (a ∷ b ∷ c ∷ []))) z h in
    let g = found (IsName e.now) label n in
    let front : texts (a ∷ b ∷ c ∷ []) ≡ operand_text p ∷ relation_text r ∷ operand_text q ∷ [] = f.words_are
    ∙ (λ i. f.first.spelled i ∷ f.second i ∷ f.third.spelled i ∷ []) in
    one_of (AreJump (texts (a ∷ b ∷ c ∷ d ∷ e ∷ []))) (p, r, q, label)
    (record { first = f.first.form; second = f.third.form; label = g.form; spelled = (λ i. front i ++ (goto i ∷ g.spelled i ∷ [])) })
    (λ k j. let m = jump_parts a b c d e k j in
    let y : SpelledOperand × Relation × SpelledOperand = (k.0, k.1, k.2) in
    let one_is : y ≡ z = only (Compared (texts (a ∷ b ∷ c ∷ []))) z y h m.0 in
    let two_is : k.3 ≡ label = only (IsName e.now) label k.3 n m.2 in
    (λ i. ((one_is i).0, (one_is i).1, (one_is i).2, two_is i)))
jump ws x y p r q label len goto h n = absurd (omega arith)

pub no_jump_length : (ws : List (Bor (List ℕ))) → (length ws ≡ 5 → ⊥) → ReadsAs (AreJump (texts ws)) None
no_jump_length ws h = nothing (AreJump (texts ws)) (λ x k. h (sym (texts_length ws) ∙ ap (λ (x : List (List ℕ)). length x) k.spelled))

pub no_jump_goto : (ws : List (Bor (List ℕ))) (x : Bor (List ℕ)) → length ws ≡ 5 → ((get_or ws 3 x).now ≡ codes "goto" → ⊥)
    → ReadsAs (AreJump (texts ws)) None
no_jump_goto (a ∷ b ∷ c ∷ d ∷ e ∷ []) x len h = nothing (AreJump (texts (a ∷ b ∷ c ∷ d ∷ e ∷ []))) (λ k j. h ((jump_parts a b c d e k j).1))
no_jump_goto ws x len h = absurd (omega arith)

pub no_jump_test : (ws : List (Bor (List ℕ))) → length ws ≡ 5 → ReadsAs (Compared (texts (take 3 ws))) None → ReadsAs (AreJump (texts ws)) None
no_jump_test (a ∷ b ∷ c ∷ d ∷ e ∷ []) len h = nothing (AreJump (texts (a ∷ b ∷ c ∷ d ∷ e ∷ []))) (λ k j.
    none (Compared (texts (a ∷ b ∷ c ∷ []))) (k.0, k.1, k.2) h (jump_parts a b c d e k j).0)
no_jump_test ws len h = absurd (omega arith)

pub no_jump_label : (ws : List (Bor (List ℕ))) (y : Bor (List ℕ)) → length ws ≡ 5 → ReadsAs (IsName (get_or ws 4 y).now) None
    → ReadsAs (AreJump (texts ws)) None
no_jump_label (a ∷ b ∷ c ∷ d ∷ e ∷ []) y len h = nothing (AreJump (texts (a ∷ b ∷ c ∷ d ∷ e ∷ []))) (λ k j.
    none (IsName e.now) k.3 h (jump_parts a b c d e k j).2)
no_jump_label ws y len h = absurd (omega arith)
