-- What the lines that were read say of the whole text.
use Rattle.std.proofs.Common.{◌≡◌, ℕ, ◌+◌, List, [], ◌∷◌, length, Result, Ok, Err, inl, inr, refl, sym, ap, subst, ◌∙◌, arith}
use Rattle.std.specs.Prelude.{◌↔◌, IfOk, IfErr}
use Rattle.scenario_text.specs.Pieces.{Piece, pieces}
use Rattle.scenario_text.specs.Reader.{IsOnly, IsNone}
use Rattle.program_text.specs.declared.lines.SpelledLine.{SpelledLine}
use Rattle.program_text.specs.Causes as alone
use Rattle.program_text.specs.Answers.{IsOnlyRight as IsOnlyRightAlone}
use Rattle.program_text.specs.Text.{AreRight}
use Rattle.program_text.proofs.Texts.{first_excludes, first_is_one}
use Rattle.program_text.specs.declared.cause.ProgramCause.{ProgramCause}
use Rattle.program_text.specs.declared.cause.ProgramCause.TheVariants.{NoMemory}
use Rattle.program_text.specs.declared.fault.ProgramFault.{ProgramFault}
use Rattle.program.specs.declared.draft.ProgramDraft.{ProgramDraft}
use Rattle.program.specs.declared.named_program.NamedProgram.{NamedProgram}
use Rattle.program.specs.Causes.{and_then}
use Rattle.program.specs.Drafts.{no_lines, next, finished}
use Rattle.program.specs.Text.{with_lines, IsProgramOf, IsRight, IsFault, IsFirstFault, IsFaultOf, IsReached}
use Rattle.program.specs.Answers.{IsOnlyRight, IsOnlyFault, Judges, FinishesBy, Finishes, IsReadFaultBy, IsReadFault}

-- ---- causes exclude each other

excluded : (p : Piece) (c : ProgramCause) (l : SpelledLine) → alone.IsFault p c → alone.IsRight p l → ⊥
excluded p c l f r = first_excludes (alone.Holds p) alone.causes c f r.1

-- ---- a line does one thing

same_ok : {A : Type 0} (a b : A) (r : Result A ProgramCause) → r ≡ Ok a → r ≡ Ok b → a ≡ b
same_ok a b r e f = cc

same_err : {A : Type 0} (b c : ProgramCause) (r : Result A ProgramCause) → r ≡ Err b → r ≡ Err c → b ≡ c
same_err b c r e f = cc

not_both : {A : Type 0} (a : A) (c : ProgramCause) (r : Result A ProgramCause) → r ≡ Ok a → r ≡ Err c → ⊥
not_both a c r e f = cc

one_line : (p : Piece) (l m : SpelledLine) → IsOnlyRightAlone p l → alone.IsRight p m → m ≡ l
one_line p l m h r = (h.1 m).0 r.0

right_of : (d : ProgramDraft) (n : ℕ) (p : Piece) (e : ProgramDraft) → IsOnlyRight d n p e → IsRight d n p e
right_of d n p e h = (h.0, h.1.0, h.2)

only_right : (d : ProgramDraft) (n : ℕ) (p : Piece) (e f : ProgramDraft) → IsOnlyRight d n p e → IsRight d n p f → f ≡ e
only_right d n p e f h r = same_ok f e (next d n h.0) (subst (λ (l : SpelledLine). next d n l ≡ Ok f) (one_line p h.0 r.0 h.1 r.1) r.2) h.2

right_is_faultless : (d : ProgramDraft) (n : ℕ) (p : Piece) (e : ProgramDraft) (c : ProgramCause) → IsOnlyRight d n p e → IsFault d n p c → ⊥
right_is_faultless d n p e c h (inl f) = excluded p c h.0 f h.1.0
right_is_faultless d n p e c h (inr f) =
    not_both e c (next d n h.0) h.2 (subst (λ (l : SpelledLine). next d n l ≡ Err c) (one_line p h.0 f.0 h.1 f.1) f.2)

fault_of : (d : ProgramDraft) (n : ℕ) (p : Piece) (c : ProgramCause) → IsOnlyFault d n p c → IsFault d n p c
fault_of d n p c (inl f) = inl f
fault_of d n p c (inr f) = inr (f.0, f.1.0, f.2)

only_fault : (d : ProgramDraft) (n : ℕ) (p : Piece) (c b : ProgramCause) → IsOnlyFault d n p c → IsFault d n p b → b ≡ c
only_fault d n p c b (inl f) (inl g) = first_is_one (alone.Holds p) alone.causes b c g f
only_fault d n p c b (inl f) (inr g) = absurd (excluded p c g.0 f g.1)
only_fault d n p c b (inr f) (inl g) = absurd (excluded p b f.0 g f.1.0)
only_fault d n p c b (inr f) (inr g) =
    same_err b c (next d n f.0) (subst (λ (l : SpelledLine). next d n l ≡ Err b) (one_line p f.0 g.0 f.1 g.1) g.2) f.2

fault_is_not_right : (d : ProgramDraft) (n : ℕ) (p : Piece) (c : ProgramCause) (e : ProgramDraft) → IsOnlyFault d n p c → IsRight d n p e → ⊥
fault_is_not_right d n p c e (inl f) r = excluded p c r.0 f r.1
fault_is_not_right d n p c e (inr f) r =
    not_both e c (next d n f.0) (subst (λ (l : SpelledLine). next d n l ≡ Ok e) (one_line p f.0 r.0 f.1 r.1) r.2) f.2

-- ---- the rest of a text makes a program of a draft

-- the lines of the pieces, put behind the draft, say the program
pub record Makes (d : ProgramDraft) (n : ℕ) (ps : List Piece) (x : NamedProgram) : Type 0 where
  pub lines : List SpelledLine
  pub draft : ProgramDraft
  pub are_right : AreRight ps lines
  pub together : with_lines d n lines ≡ Ok draft
  pub ends : finished draft (n + length lines) ≡ Ok x

pub then_ok : {A B : Type 0} (r : Result A ProgramCause) (k : A → Result B ProgramCause) (b : B) → and_then r k ≡ Ok b → (a : A) × (r ≡ Ok a) × (k a ≡ Ok b)
then_ok (Ok a) k b e = (a, refl, e)
then_ok (Err c) k b e = absurd cc

more : (d e : ProgramDraft) (n : ℕ) (p : Piece) (ps : List Piece) (x : NamedProgram) → IsOnlyRight d n p e → Makes e (n + 1) ps x → Makes d n (p ∷ ps) x
more d e n p ps x h m = record {
  lines = h.0 ∷ m.lines;
  draft = m.draft;
  are_right = (h.1.0, m.are_right);
  together = ap (λ (r : Result ProgramDraft ProgramCause). and_then r (λ g. with_lines g (n + 1) m.lines)) h.2 ∙ m.together;
  ends = subst (λ (k : ℕ). finished m.draft k ≡ Ok x) (omega arith) m.ends;
}

less_by : (d e : ProgramDraft) (n : ℕ) (p : Piece) (ps : List Piece) (x : NamedProgram) → IsOnlyRight d n p e → (lines : List SpelledLine) (f : ProgramDraft)
    → AreRight (p ∷ ps) lines → with_lines d n lines ≡ Ok f → finished f (n + length lines) ≡ Ok x → Makes e (n + 1) ps x
less_by d e n p ps x h [] f right together ends = absurd right
less_by d e n p ps x h (l ∷ ls) f right together ends =
    let t = then_ok (next d n l) (λ g. with_lines g (n + 1) ls) f together in
    let is : t.0 ≡ e = only_right d n p e t.0 h (l, right.0, t.1) in
    record {
      lines = ls;
      draft = f;
      are_right = right.1;
      together = subst (λ (g : ProgramDraft). with_lines g (n + 1) ls ≡ Ok f) is t.2;
      ends = subst (λ (k : ℕ). finished f k ≡ Ok x) (omega arith) ends;
    }

less : (d e : ProgramDraft) (n : ℕ) (p : Piece) (ps : List Piece) (x : NamedProgram) → IsOnlyRight d n p e → Makes d n (p ∷ ps) x → Makes e (n + 1) ps x
less d e n p ps x h m = less_by d e n p ps x h m.lines m.draft m.are_right m.together m.ends

never : (d : ProgramDraft) (n : ℕ) (p : Piece) (ps : List Piece) (c : ProgramCause) (x : NamedProgram) → IsOnlyFault d n p c → (lines : List SpelledLine) (f : ProgramDraft)
    → AreRight (p ∷ ps) lines → with_lines d n lines ≡ Ok f → ⊥
never d n p ps c x h [] f right together = right
never d n p ps c x h (l ∷ ls) f right together =
    let t = then_ok (next d n l) (λ g. with_lines g (n + 1) ls) f together in
    fault_is_not_right d n p c t.0 h (l, right.0, t.1)

makes_all : (text : List ℕ) (x : NamedProgram) → Makes no_lines 1 (pieces text) x → IsProgramOf text x
makes_all text x m = record {
  lines = m.lines;
  draft = m.draft;
  are_lines = m.are_right;
  together = m.together;
  ends = subst (λ (k : ℕ). finished m.draft k ≡ Ok x) (omega arith) m.ends;
}

all_makes : (text : List ℕ) (x : NamedProgram) → IsProgramOf text x → Makes no_lines 1 (pieces text) x
all_makes text x m = record {
  lines = m.lines;
  draft = m.draft;
  are_right = m.are_lines;
  together = m.together;
  ends = subst (λ (k : ℕ). finished m.draft k ≡ Ok x) (omega arith) m.ends;
}

-- ---- the rest of a text tells of the whole

-- the lines before the rest are right, and the text can be read in no other way
pub record SoFar (text rest : List ℕ) (d : ProgramDraft) (n : ℕ) : Type 0 where
  pub program : (x : NamedProgram) → Makes d n (pieces rest) x ↔ Makes no_lines 1 (pieces text) x
  pub fault : (f : ProgramFault) → IsFirstFault d n (pieces rest) f ↔ IsFaultOf text f
  pub reached : (k : ℕ) → IsReached d n (pieces rest) k → IsReached no_lines 1 (pieces text) k

pub begins : (text : List ℕ) → SoFar text text no_lines 1
begins text = record {
  program = λ x. ((λ h. h), (λ h. h));
  fault = λ f. ((λ h. h), (λ h. h));
  reached = λ k h. h;
}

tail_fault : (d e : ProgramDraft) (n : ℕ) (p : Piece) (ps : List Piece) → IsOnlyRight d n p e → (f : ProgramFault) → IsFirstFault d n (p ∷ ps) f
    → IsFirstFault e (n + 1) ps f
tail_fault d e n p ps h f (inl a) = absurd (right_is_faultless d n p e f.cause h a.1)
tail_fault d e n p ps h f (inr a) = subst (λ (g : ProgramDraft). IsFirstFault g (n + 1) ps f) (only_right d n p e a.0 h a.1) a.2

pub turn : (text rest after : List ℕ) (d e : ProgramDraft) (n : ℕ) (p : Piece) → SoFar text rest d n
    → pieces rest ≡ p ∷ pieces after → IsOnlyRight d n p e
    → SoFar text after e (n + 1)
turn text rest after d e n p so is h = record {
  program = λ x. (
    (λ m. (so.program x).0 (subst (λ (ps : List Piece). Makes d n ps x) (sym is) (more d e n p (pieces after) x h m))),
    (λ m. less d e n p (pieces after) x h (subst (λ (ps : List Piece). Makes d n ps x) is ((so.program x).1 m))),
  );
  fault = λ f. (
    (λ a. (so.fault f).0 (subst (λ (ps : List Piece). IsFirstFault d n ps f) (sym is) (inr (e, right_of d n p e h, a)))),
    (λ a. tail_fault d e n p (pieces after) h f (subst (λ (ps : List Piece). IsFirstFault d n ps f) is ((so.fault f).1 a))),
  );
  reached = λ k a. so.reached k (subst (λ (ps : List Piece). IsReached d n ps k) (sym is) (inr (e, right_of d n p e h, a)));
}

-- ---- a faulty line

faulty_is_one : (d : ProgramDraft) (n : ℕ) (p : Piece) (ps : List Piece) (c : ProgramCause) → IsOnlyFault d n p c → (f : ProgramFault) → IsFirstFault d n (p ∷ ps) f
    → f ≡ record { line = n; cause = c }
faulty_is_one d n p ps c h f (inl a) =
    let e : f.cause ≡ c = only_fault d n p c f.cause h a.1 in
    (λ i. record { line = a.0 i; cause = e i })
faulty_is_one d n p ps c h f (inr a) = absurd (fault_is_not_right d n p c a.0 h a.1)

told : (text rest after : List ℕ) (d : ProgramDraft) (n : ℕ) (p : Piece) (c : ProgramCause) → SoFar text rest d n
    → pieces rest ≡ p ∷ pieces after → IsOnlyFault d n p c
    → IsOnly (IsFaultOf text) (record { line = n; cause = c }) × IsNone (IsProgramOf text)
told text rest after d n p c so is h =
    let mine : IsFaultOf text (record { line = n; cause = c }) =
    (so.fault (record { line = n; cause = c })).0
    (subst (λ (ps : List Piece). IsFirstFault d n ps (record { line = n; cause = c })) (sym is) (inl (refl, fault_of d n p c h))) in (
      (λ f. (
        (λ a. faulty_is_one d n p (pieces after) c h f (subst (λ (ps : List Piece). IsFirstFault d n ps f) is ((so.fault f).1 a))),
        (λ k. subst (IsFaultOf text) (sym k) mine),
      )),
      (λ x m. let g = subst (λ (ps : List Piece). Makes d n ps x) is ((so.program x).1 (all_makes text x m)) in
          never d n p (pieces after) c x h g.lines g.draft g.are_right g.together),
    )

pub failed : (text rest after : List ℕ) (d : ProgramDraft) (n : ℕ) (p : Piece) (c : ProgramCause) → SoFar text rest d n → pieces rest ≡ p ∷ pieces after
    → Judges d n p (Err c) → IsReadFaultBy text (record { line = n; cause = c }) c
failed text rest after d n p NoMemory so is h = so.reached n (subst (λ (ps : List Piece). IsReached d n ps n) (sym is) (inl (refl, h)))
failed text rest after d n p c so is h = told text rest after d n p c so is h

-- ---- the end

at_end : (d : ProgramDraft) (n : ℕ) (x : NamedProgram) (lines : List SpelledLine) (f : ProgramDraft) → AreRight [] lines → with_lines d n lines ≡ Ok f
    → finished f (n + length lines) ≡ Ok x → finished d n ≡ Ok x
at_end d n x [] f right together ends =
    let same : d ≡ f = same_ok d f (with_lines d n []) refl together in
    subst (λ (g : ProgramDraft). finished g n ≡ Ok x) (sym same) (subst (λ (k : ℕ). finished f k ≡ Ok x) (omega arith) ends)
at_end d n x (l ∷ ls) f right together ends = absurd right

-- the program of a text is what the draft says at its end
ended : (text rest : List ℕ) (d : ProgramDraft) (n : ℕ) (x : NamedProgram) → SoFar text rest d n → rest ≡ [] → IsProgramOf text x → finished d n ≡ Ok x
ended text rest d n x so e m =
    let g = subst (λ (bytes : List ℕ). Makes d n (pieces bytes) x) e ((so.program x).1 (all_makes text x m)) in
    at_end d n x g.lines g.draft g.are_right g.together g.ends

says : (text rest : List ℕ) (d : ProgramDraft) (n : ℕ) (x : NamedProgram) → SoFar text rest d n → rest ≡ [] → finished d n ≡ Ok x → IsProgramOf text x
says text rest d n x so e h =
    makes_all text x ((so.program x).0 (subst (λ (bytes : List ℕ). Makes d n (pieces bytes) x) (sym e) (record {
      lines = [];
      draft = d;
      are_right = tt;
      together = refl;
      ends = subst (λ (k : ℕ). finished d k ≡ Ok x) (omega arith) h;
    })))

pub program_is : (text rest : List ℕ) (d : ProgramDraft) (n : ℕ) (x : NamedProgram) → SoFar text rest d n → rest ≡ [] → finished d n ≡ Ok x
    → IsOnly (IsProgramOf text) x
program_is text rest d n x so e h y = (
  (λ m. same_ok y x (finished d n) (ended text rest d n y so e m) h),
  (λ k. subst (IsProgramOf text) (sym k) (says text rest d n x so e h)),
)
  where
    same_ok : (a b : NamedProgram) (r : Result NamedProgram ProgramFault) → r ≡ Ok a → r ≡ Ok b → a ≡ b
    same_ok a b r f g = cc

fault_ends : (text rest : List ℕ) (d : ProgramDraft) (n : ℕ) (f : ProgramFault) → SoFar text rest d n → rest ≡ []
    → IsFaultOf text f → finished d n ≡ Err f
fault_ends text rest d n f so e a = subst (λ (bytes : List ℕ). IsFirstFault d n (pieces bytes) f) e ((so.fault f).1 a)

one_end : (a b : NamedProgram) (f g : ProgramFault) (r : Result NamedProgram ProgramFault) → r ≡ Ok a → r ≡ Err f → ⊥
one_end a b f g r p q = cc

pub faultless : (text rest : List ℕ) (d : ProgramDraft) (n : ℕ) (x : NamedProgram) → SoFar text rest d n → rest ≡ []
    → finished d n ≡ Ok x → IsNone (IsFaultOf text)
faultless text rest d n x so e h f a = one_end x x f f (finished d n) h (fault_ends text rest d n f so e a)

told_last : (text rest : List ℕ) (d : ProgramDraft) (n : ℕ) (f : ProgramFault) → SoFar text rest d n → rest ≡ [] → finished d n ≡ Err f
    → IsOnly (IsFaultOf text) f × IsNone (IsProgramOf text)
told_last text rest d n f so e h = (
  (λ g. (
    (λ a. same (finished d n) g f (fault_ends text rest d n g so e a) h),
    (λ k. subst (IsFaultOf text) (sym k) ((so.fault f).0 (subst (λ (bytes : List ℕ). IsFirstFault d n (pieces bytes) f) (sym e) h))),
  )),
  (λ x m. one_end x x f f (finished d n) (ended text rest d n x so e m) h),
)
  where
    same : (r : Result NamedProgram ProgramFault) (a b : ProgramFault) → r ≡ Err a → r ≡ Err b → a ≡ b
    same r a b p q = cc

last_by : (text rest : List ℕ) (d : ProgramDraft) (n : ℕ) (f : ProgramFault) (c : ProgramCause) → f.cause ≡ c
    → SoFar text rest d n → rest ≡ [] → FinishesBy d n f c
    → IsReadFaultBy text f c
last_by text rest d n f NoMemory is so e h =
    so.reached f.line (subst (λ (bytes : List ℕ). IsReached d n (pieces bytes) f.line) (sym e) h)
last_by text rest d n f c is so e h = told_last text rest d n f so e h

pub last_fault : (text rest : List ℕ) (d : ProgramDraft) (n : ℕ) (f : ProgramFault) → SoFar text rest d n → rest ≡ []
    → Finishes d n (Err f) → IsReadFault text f
last_fault text rest d n f so e h = last_by text rest d n f f.cause refl so e h

pub last_program : (text rest : List ℕ) (d : ProgramDraft) (n : ℕ) (r : Result NamedProgram ProgramFault) → SoFar text rest d n → rest ≡ [] → Finishes d n r
    → IfOk r (λ x. IsOnly (IsProgramOf text) x)
last_program text rest d n (Ok x) so e h = program_is text rest d n x so e h
last_program text rest d n (Err f) so e h = tt

pub last_faultless : (text rest : List ℕ) (d : ProgramDraft) (n : ℕ) (r : Result NamedProgram ProgramFault) → SoFar text rest d n → rest ≡ [] → Finishes d n r
    → IfOk r (λ x. IsNone (IsFaultOf text))
last_faultless text rest d n (Ok x) so e h = faultless text rest d n x so e h
last_faultless text rest d n (Err f) so e h = tt

pub last_told : (text rest : List ℕ) (d : ProgramDraft) (n : ℕ) (r : Result NamedProgram ProgramFault) → SoFar text rest d n → rest ≡ [] → Finishes d n r
    → IfErr r (IsReadFault text)
last_told text rest d n (Ok x) so e h = tt
last_told text rest d n (Err f) so e h = last_fault text rest d n f so e h
