-- What the lines that were read say of the whole text.
use Rattle.std.proofs.Common.{◌≡◌, ℕ, ◌+◌, List, [], ◌∷◌, ◌++◌, length, Err, inl, inr, refl, sym, ap, subst, ◌∙◌, append_assoc}
use Rattle.std.specs.Prelude.{◌↔◌}
use Rattle.std.proofs.lemmas.List.{append-nil}
use Rattle.program_text.specs.declared.cause.ProgramCause.{ProgramCause}
use Rattle.program_text.specs.declared.cause.ProgramCause.TheVariants.{NoMemory}
use Rattle.program_text.specs.declared.fault.ProgramFault.{ProgramFault}
use Rattle.program_text.specs.declared.lines.SpelledLine.{SpelledLine}
use Rattle.scenario_text.specs.Pieces.{Piece, pieces}
use Rattle.program_text.specs.Causes.{Holds, IsFirst, HoldsNone, IsFault, IsReadable, causes}
use Rattle.program_text.specs.Text.{AreRight, AreLinesOf, IsFirstFault, IsFaultOf, IsReached}
use Rattle.scenario_text.specs.Reader.{IsOnly, IsNone}
use Rattle.program_text.specs.Answers.{IsOnlyRight, Judges, IsReadFaultBy}

-- ---- causes exclude each other

pub first_excludes : (P : ProgramCause → Type 0) (cs : List ProgramCause) (c : ProgramCause) → IsFirst P cs c → HoldsNone P cs → ⊥
first_excludes P [] c f n = f
first_excludes P (d ∷ ds) c (inl f) n = n.0 f.0
first_excludes P (d ∷ ds) c (inr f) n = first_excludes P ds c f.1 n.1

pub first_is_one : (P : ProgramCause → Type 0) (cs : List ProgramCause) (c d : ProgramCause) → IsFirst P cs c → IsFirst P cs d → c ≡ d
first_is_one P [] c d f g = absurd f
first_is_one P (e ∷ es) c d (inl f) (inl g) = f.1 ∙ sym g.1
first_is_one P (e ∷ es) c d (inl f) (inr g) = absurd (g.0 f.0)
first_is_one P (e ∷ es) c d (inr f) (inl g) = absurd (f.0 g.0)
first_is_one P (e ∷ es) c d (inr f) (inr g) = first_is_one P es c d f.1 g.1

-- ---- the rest of a text tells of the whole

-- the lines before the rest are right, and the text can be read in no other way
pub record SoFar (text rest : List ℕ) (before : List SpelledLine) : Type 0 where
  pub right : (more : List SpelledLine) → AreRight (pieces rest) more → AreRight (pieces text) (before ++ more)
  pub only_right : (lines : List SpelledLine) → AreRight (pieces text) lines → (more : List SpelledLine) × (lines ≡ before ++ more) × AreRight (pieces rest) more
  pub fault : (f : ProgramFault) → IsFirstFault before (pieces rest) f ↔ IsFaultOf text f
  pub reached : (n : ℕ) → IsReached before (pieces rest) n → IsReached [] (pieces text) n

pub begins : (text : List ℕ) → SoFar text text []
begins text = record {
  right = λ more h. h;
  only_right = λ lines h. (lines, refl, h);
  fault = λ f. ((λ h. h), (λ h. h));
  reached = λ n h. h;
}

tail_right : (before : List SpelledLine) (p : Piece) (ps : List Piece) (l : SpelledLine) → IsOnlyRight p l → (lines : List SpelledLine) → AreRight (p ∷ ps) lines
    → (more : List SpelledLine) × (lines ≡ l ∷ more) × AreRight ps more
tail_right before p ps l h [] a = absurd a
tail_right before p ps l h (m ∷ ms) a =
    let e : m ≡ l = (h.1 m).0 a.0.0 in
    (ms, ap (λ (x : SpelledLine). x ∷ ms) e, a.1)

tail_fault : (before : List SpelledLine) (p : Piece) (ps : List Piece) (l : SpelledLine) → IsOnlyRight p l → (f : ProgramFault) → IsFirstFault before (p ∷ ps) f
    → IsFirstFault (before ++ (l ∷ [])) ps f
tail_fault before p ps l h f (inl a) = absurd (first_excludes (Holds p) causes f.cause a.1 h.0.1)
tail_fault before p ps l h f (inr a) =
    let e : a.0 ≡ l = (h.1 a.0).0 a.1.0 in
    subst (λ (x : SpelledLine). IsFirstFault (before ++ (x ∷ [])) ps f) e a.2

pub turn : (text rest after : List ℕ) (before : List SpelledLine) (p : Piece) (l : SpelledLine) → SoFar text rest before
    → pieces rest ≡ p ∷ pieces after → IsOnlyRight p l
    → SoFar text after (before ++ (l ∷ []))
turn text rest after before p l so e h = record {
  right = λ more a.
      subst (AreRight (pieces text)) (sym (append_assoc before (l ∷ []) more))
      (so.right (l ∷ more) (subst (λ (ps : List Piece). AreRight ps (l ∷ more)) (sym e) (h.0, a)));
  only_right = λ lines a.
      let g = so.only_right lines a in
      let t = tail_right before p (pieces after) l h g.0 (subst (λ (ps : List Piece). AreRight ps g.0) e g.2) in
      (t.0, g.1 ∙ ap (λ (x : List SpelledLine). before ++ x) t.1 ∙ sym (append_assoc before (l ∷ []) t.0), t.2);
  fault = λ f. (
    (λ a. (so.fault f).0 (subst (λ (ps : List Piece). IsFirstFault before ps f) (sym e) (inr (l, h.0, a)))),
    (λ a. tail_fault before p (pieces after) l h f (subst (λ (ps : List Piece). IsFirstFault before ps f) e ((so.fault f).1 a))),
  );
  reached = λ n a. so.reached n (subst (λ (ps : List Piece). IsReached before ps n) (sym e) (inr (l, h.0, a)));
}

-- ---- a faulty line

faulty_is_one : (before : List SpelledLine) (p : Piece) (ps : List Piece) (c : ProgramCause) → IsFault p c → (f : ProgramFault) → IsFirstFault before (p ∷ ps) f
    → f ≡ record { line = length before + 1; cause = c }
faulty_is_one before p ps c h f (inl a) =
    let e : f.cause ≡ c = first_is_one (Holds p) causes f.cause c a.1 h in
    (λ i. record { line = a.0 i; cause = e i })
faulty_is_one before p ps c h f (inr a) = absurd (first_excludes (Holds p) causes c h a.1.1)

faulty_is_not_right : (before : List SpelledLine) (p : Piece) (ps : List Piece) (c : ProgramCause) → IsFault p c
    → (lines : List SpelledLine) → AreRight (p ∷ ps) lines → ⊥
faulty_is_not_right before p ps c h [] a = a
faulty_is_not_right before p ps c h (l ∷ ls) a = first_excludes (Holds p) causes c h a.0.1

told : (text rest after : List ℕ) (before : List SpelledLine) (p : Piece) (c : ProgramCause) → SoFar text rest before
    → pieces rest ≡ p ∷ pieces after → IsFault p c
    → IsOnly (IsFaultOf text) (record { line = length before + 1; cause = c }) × IsNone (AreLinesOf text)
told text rest after before p c so e h =
    let mine : IsFaultOf text (record { line = length before + 1; cause = c }) =
    (so.fault (record { line = length before + 1; cause = c })).0
    (subst (λ (ps : List Piece). IsFirstFault before ps (record { line = length before + 1; cause = c })) (sym e) (inl (refl, h))) in (
      (λ f. (
        (λ a. faulty_is_one before p (pieces after) c h f (subst (λ (ps : List Piece). IsFirstFault before ps f) e ((so.fault f).1 a))),
        (λ k. subst (IsFaultOf text) (sym k) mine),
      )),
      (λ lines r. let g = so.only_right lines r in
          faulty_is_not_right before p (pieces after) c h g.0 (subst (λ (ps : List Piece). AreRight ps g.0) e g.2)),
    )

-- the number of the line that is read
pub reaches : (text rest after : List ℕ) (before : List SpelledLine) (p : Piece) (n : ℕ) → n ≡ length before + 1 → IsReadable p → SoFar text rest before
    → pieces rest ≡ p ∷ pieces after
    → IsReached [] (pieces text) n
reaches text rest after before p n k readable so e = so.reached n (subst (λ (ps : List Piece). IsReached before ps n) (sym e) (inl (k, readable)))

pub failed : (text rest after : List ℕ) (before : List SpelledLine) (p : Piece) (n : ℕ) (c : ProgramCause) → n ≡ length before + 1 → SoFar text rest before
    → pieces rest ≡ p ∷ pieces after
    → Judges p (Err c) → IsReadFaultBy text (record { line = n; cause = c }) c
failed text rest after before p n NoMemory k so e h = reaches text rest after before p n k h so e
failed text rest after before p n c k so e h =
    subst (λ (m : ℕ). IsOnly (IsFaultOf text) (record { line = m; cause = c }) × IsNone (AreLinesOf text)) (sym k) (told text rest after before p c so e h)

-- ---- the end

no_more : (before lines : List SpelledLine) → AreRight [] lines → lines ≡ []
no_more before [] a = refl
no_more before (l ∷ ls) a = absurd a

-- at the end the lines are those before it
whole : (text rest : List ℕ) (before : List SpelledLine) → SoFar text rest before → rest ≡ [] → (lines : List SpelledLine)
    → AreRight (pieces text) lines → lines ≡ before
whole text rest before so e lines a =
    let g = so.only_right lines a in
    let none : g.0 ≡ [] = no_more before g.0 (subst (λ (bytes : List ℕ). AreRight (pieces bytes) g.0) e g.2) in
    g.1 ∙ ap (λ (x : List SpelledLine). before ++ x) none ∙ append-nil before

ended : (text rest : List ℕ) (before : List SpelledLine) → SoFar text rest before → rest ≡ [] → AreRight (pieces text) before
ended text rest before so e =
    subst (AreRight (pieces text)) (append-nil before) (so.right [] (subst (λ (bytes : List ℕ). AreRight (pieces bytes) []) (sym e) tt))

-- they are the text's lines
pub lines_are : (text rest : List ℕ) (lines : List SpelledLine) → SoFar text rest lines → rest ≡ [] → IsOnly (AreLinesOf text) lines
lines_are text rest lines so e other = (whole text rest lines so e other, (λ k. subst (AreRight (pieces text)) (sym k) (ended text rest lines so e)))

pub faultless : (text rest : List ℕ) (lines : List SpelledLine) → SoFar text rest lines → rest ≡ [] → IsNone (IsFaultOf text)
faultless text rest lines so e f a = subst (λ (bytes : List ℕ). IsFirstFault lines (pieces bytes) f) e ((so.fault f).1 a)
