-- Parts that several lines share.
use Rattle.std.proofs.Common.{◌≡◌, ℕ, zero, suc, ◌<◌, List, [], ◌∷◌, ◌++◌, length, take, get_or, true, Option, Some, None, Bor, refl, sym}
use Rattle.std.proofs.Common.{ap, subst, ◌∙◌}
use Rattle.std.proofs.Common.{arith}
use Rattle.std.specs.List.{AllByRecursion}
use Rattle.scenario_text.specs.Phrases.{ReadsAs}
use Rattle.scenario_text.proofs.Parts.{nothing, one as one_of, found, only, none}
use Rattle.program_text.specs.declared.words.SpelledOperand.{SpelledOperand}
use Rattle.program_text.specs.declared.words.SpelledPlace.{SpelledPlace}
use Rattle.program_text.specs.Words.{texts, IsNameText, IsName, IsOperand, IsPlace, operand_text, place_text}
use Rattle.program_text.specs.Lines.{is_sized, is_fixed}
use Rattle.program_text.specs.Shapes.{AreTwo, AreThree, AreCells, AreAccess, AreNames}

-- ---- cells

two_of_cells : (words : List (List ℕ)) (x : SpelledPlace × SpelledOperand) → AreCells words x → AreTwo IsPlace IsOperand words x
two_of_cells words x q = record {
  v = place_text x.0;
  w = operand_text x.1;
  words_are = q.spelled;
  first = record { form = q.place; spelled = refl };
  second = record { form = q.operand; spelled = refl };
}

pub cells : (words : List (List ℕ)) (p : SpelledPlace) (v : SpelledOperand) → ReadsAs (AreTwo IsPlace IsOperand words) (Some (p, v)) → is_sized p.index ≡ true
    → is_fixed v ≡ true → ReadsAs (AreCells words) (Some (p, v))
cells words p v h size value =
    let f = found (AreTwo IsPlace IsOperand words) (p, v) h in
    one_of (AreCells words) (p, v)
    (record {
      place = f.first.form;
      size = size;
      operand = f.second.form;
      value = value;
      spelled = f.words_are ∙ (λ i. f.first.spelled i ∷ f.second.spelled i ∷ []);
    })
    (λ x q. only (AreTwo IsPlace IsOperand words) (p, v) x h (two_of_cells words x q))

pub no_cells : (words : List (List ℕ)) → ReadsAs (AreTwo IsPlace IsOperand words) None → ReadsAs (AreCells words) None
no_cells words h = nothing (AreCells words) (λ x q. none (AreTwo IsPlace IsOperand words) x h (two_of_cells words x q))

pub bad_cells : (words : List (List ℕ)) (p : SpelledPlace) (v : SpelledOperand) → ReadsAs (AreTwo IsPlace IsOperand words) (Some (p, v)) → (is_sized p.index ≡ true
    → is_fixed v ≡ true → ⊥) → ReadsAs (AreCells words) None
bad_cells words p v h bad =
    nothing (AreCells words) (λ x q.
    let e = only (AreTwo IsPlace IsOperand words) (p, v) x h (two_of_cells words x q) in
    bad (subst (λ (y : SpelledPlace × SpelledOperand). is_sized y.0.index ≡ true) e q.size) (subst (λ (y : SpelledPlace × SpelledOperand). is_fixed y.1 ≡ true) e q.value))

-- ---- a register that may be left out

three_of_access : (words : List (List ℕ)) (p : SpelledPlace) (e : SpelledOperand) (n : List ℕ) → AreAccess words (p, e, Some n)
    → AreThree IsPlace IsOperand IsName words (p, e, n)
three_of_access words p e n q = record {
  u = place_text p;
  v = operand_text e;
  w = n;
  words_are = q.spelled;
  first = record { form = q.place; spelled = refl };
  second = record { form = q.operand; spelled = refl };
  third = record { form = q.register; spelled = refl };
}

two_of_access : (words : List (List ℕ)) (p : SpelledPlace) (e : SpelledOperand) → AreAccess words (p, e, None) → AreTwo IsPlace IsOperand words (p, e)
two_of_access words p e q = record {
  v = place_text p;
  w = operand_text e;
  words_are = q.spelled;
  first = record { form = q.place; spelled = refl };
  second = record { form = q.operand; spelled = refl };
}

pub access_three : (words : List (List ℕ)) (p : SpelledPlace) (e : SpelledOperand) (n : List ℕ) → ReadsAs (AreThree IsPlace IsOperand IsName words) (Some (p, e, n))
    → ReadsAs (AreAccess words) (Some (p, e, Some n))
access_three words p e n h =
    let f = found (AreThree IsPlace IsOperand IsName words) (p, e, n) h in
    one_of (AreAccess words) (p, e, Some n)
    (record {
      place = f.first.form;
      operand = f.second.form;
      register = f.third.form;
      spelled = f.words_are ∙ (λ i. f.first.spelled i ∷ f.second.spelled i ∷ f.third.spelled i ∷ []);
    }) (λ x q. is x.0 x.1 x.2 q)
  where
    is : (a : SpelledPlace) (b : SpelledOperand) (o : Option (List ℕ)) → AreAccess words (a, b, o)
        → let x : SpelledPlace × SpelledOperand × Option (List ℕ) = (a, b, o) in x ≡ (p, e, Some n)
    is a b None q = let f = found (AreThree IsPlace IsOperand IsName words) (p, e, n) h in let s = q.spelled in let t = f.words_are in absurd cc
    is a b (Some m) q =
        ap (λ (x : SpelledPlace × SpelledOperand × List ℕ). (x.0, x.1, Some x.2)) (only (AreThree IsPlace IsOperand IsName words) (p, e, n) (
          a,
          b,
          m,
        ) h (three_of_access words a b m q))

pub access_two : (words : List (List ℕ)) (p : SpelledPlace) (e : SpelledOperand) → ReadsAs (AreThree IsPlace IsOperand IsName words) None
    → ReadsAs (AreTwo IsPlace IsOperand words) (Some (p, e)) → ReadsAs (AreAccess words) (Some (p, e, None))
access_two words p e none_is h =
    let f = found (AreTwo IsPlace IsOperand words) (p, e) h in
    one_of (AreAccess words) (p, e, None) (record {
      place = f.first.form;
      operand = f.second.form;
      register = tt;
      spelled = f.words_are ∙ (λ i. f.first.spelled i ∷ f.second.spelled i ∷ []);
    }) (λ x q. is x.0 x.1 x.2 q)
  where
    is : (a : SpelledPlace) (b : SpelledOperand) (o : Option (List ℕ)) → AreAccess words (a, b, o) → let x : SpelledPlace × SpelledOperand
        × Option (List ℕ) = (a, b, o) in x ≡ (p, e, None)
    is a b None q = ap (λ (x : SpelledPlace × SpelledOperand). (x.0, x.1, None)) (only (AreTwo IsPlace IsOperand words) (p, e) (a, b) h (two_of_access words a b q))
    is a b (Some m) q = absurd (none (AreThree IsPlace IsOperand IsName words) (a, b, m) none_is (three_of_access words a b m q))

pub no_access : (words : List (List ℕ)) → ReadsAs (AreThree IsPlace IsOperand IsName words) None → ReadsAs (AreTwo IsPlace IsOperand words) None
    → ReadsAs (AreAccess words) None
no_access words none_is h = nothing (AreAccess words) (λ x q. is x.0 x.1 x.2 q)
  where
    is : (a : SpelledPlace) (b : SpelledOperand) (o : Option (List ℕ)) → AreAccess words (a, b, o) → ⊥
    is a b None q = none (AreTwo IsPlace IsOperand words) (a, b) h (two_of_access words a b q)
    is a b (Some m) q = none (AreThree IsPlace IsOperand IsName words) (a, b, m) none_is (three_of_access words a b m q)

-- ---- one name or more

all_at : (ws : List (Bor (List ℕ))) (i : ℕ) (d : Bor (List ℕ)) → AllByRecursion IsNameText (texts ws)
    → i < length ws → IsNameText (get_or ws i d).now
all_at [] i d h lt = absurd (omega arith)
all_at (w ∷ ws) zero d h lt = h.0
all_at (w ∷ ws) (suc i) d h lt = all_at ws i d h.1 (omega arith)

pub all_more : (ns : List (List ℕ)) (n : List ℕ) → AllByRecursion IsNameText ns → IsNameText n → AllByRecursion IsNameText (ns ++ (n ∷ []))
all_more [] n h k = (k, tt)
all_more (m ∷ ns) n h k = (h.0, all_more ns n h.1 k)

pub texts_more : (ws : List (Bor (List ℕ))) (i : ℕ) (d : Bor (List ℕ)) → i < length ws
    → texts (take (suc i) ws) ≡ texts (take i ws) ++ ((get_or ws i d).now ∷ [])
texts_more [] i d lt = absurd (omega arith)
texts_more (w ∷ ws) zero d lt = refl
texts_more (w ∷ ws) (suc i) d lt = ap (λ (x : List (List ℕ)). w.now ∷ x) (texts_more ws i d (omega arith))

pub names_bad : (ws : List (Bor (List ℕ))) (i : ℕ) (d : Bor (List ℕ)) → i < length ws → ReadsAs (IsName (get_or ws i d).now) None
    → ReadsAs (AreNames (texts ws)) None
names_bad ws i d lt r =
    nothing (AreNames (texts ws)) (λ ns q.
    let all : AllByRecursion IsNameText (texts ws) = subst (AllByRecursion IsNameText) (sym q.spelled) q.form in
    none (IsName (get_or ws i d).now) (get_or ws i d).now r (record { form = all_at ws i d all lt; spelled = refl }))
