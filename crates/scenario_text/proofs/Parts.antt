-- How the reading of a part becomes that of the whole.
use Rattle.std.proofs.Common.{◌≡◌, ◌≢◌, ℕ, ◌+◌, ◌^◌, ◌<◌, List, ◌∷◌, ◌++◌, length, get_or, ◌-◌, take, drop, Option}
use Rattle.std.proofs.Common.{Some, None, Bor, refl, sym, ap, subst, ◌∙◌}
use Rattle.std.proofs.Common.{append_assoc, arith, inl, inr, ◌⊎◌}
use Rattle.std.specs.Prelude.{codes}
use Rattle.std.specs.Option.{MatchOption}
use Rattle.std.specs.Fmt.{decimal}
use Rattle.std.specs.Str.Pattern.{FindsTextPrefix, FindsTextSuffix}
use Rattle.std.proofs.lemmas.List.{append_cancel_left, append_cancel_right}
use Rattle.std.proofs.lemmas.Str.Parse.{digit_at}
use Rattle.std.proofs.lemmas.Str.Pattern.{IsSplitOnceResult, split_after, split_parts}
use Rattle.scenario_text.specs.declared.reader.call.SpelledGivingUp.{SpelledGivingUp}
use Rattle.scenario_text.specs.Line.{change_text, IsShortGivingUp, giving_up_text}
use Rattle.scenario_text.specs.Phrases.{ReadsAs, IsNumber, IsKeyed, IsFlagged, IsNumbered, IsPair, IsChange, IsGroupAdd, IsGivingUp, IsOrLeave}
use Rattle.scenario_text.proofs.Numbers.{decimal_digits}

pub nothing : {A : Type 0} (P : A → Type 0) → ((a : A) → P a → ⊥) → ReadsAs P None
nothing P none a = (λ p. absurd (none a p), λ e. absurd cc)

pub same : {A : Type 0} (P Q : A → Type 0) (o : Option A) → ReadsAs P o → ((a : A) → P a → Q a) → ((a : A) → Q a → P a) → ReadsAs Q o
same P Q o h to from a = (λ q. (h a).0 (from a q), λ e. to a ((h a).1 e))

pub one : {A : Type 0} (Q : A → Type 0) (x : A) → Q x → ((a : A) → Q a → a ≡ x) → ReadsAs Q (Some x)
one Q x q only a = (λ p. ap Some (sym (only a p)), λ e. let same_one : x ≡ a = cc in subst Q same_one q)

pub found : {A : Type 0} (P : A → Type 0) (x : A) → ReadsAs P (Some x) → P x
found P x h = (h x).1 refl

pub only : {A : Type 0} (P : A → Type 0) (x a : A) → ReadsAs P (Some x) → P a → a ≡ x
only P x a h p = let e = (h a).0 p in cc

pub none : {A : Type 0} (P : A → Type 0) (a : A) → ReadsAs P None → P a → ⊥
none P a h p = let e = (h a).0 p in cc

-- what a reader answers that fails
pub fails : {A : Type 0} (P : A → Type 0) (o : Option A) → o ≡ None → ((a : A) → P a → ⊥) → ReadsAs P o
fails P o e other = subst (ReadsAs P) (sym e) (nothing P other)

pub keyed_reads : (most : ℕ) (keyword rest text : List ℕ) (o : Option ℕ) → text ≡ keyword ++ rest → ReadsAs (IsNumber most rest) o
    → ReadsAs (IsKeyed most keyword text) o
keyed_reads most keyword rest text o e h = same (IsNumber most rest) (IsKeyed most keyword text) o h
    (λ n p. (p.0, e ∙ ap (λ (x : List ℕ). keyword ++ x) p.1))
    (λ n q. (q.0, append_cancel_left keyword rest (decimal n) (sym e ∙ q.1)))

pub flagged_reads : (keyword flag front text : List ℕ) (o : Option ℕ) → text ≡ front ++ flag → ReadsAs (IsKeyed 10 keyword front) o
    → ReadsAs (IsFlagged keyword flag text) o
flagged_reads keyword flag front text o e h = same (IsKeyed 10 keyword front) (IsFlagged keyword flag text) o h
    (λ n p. (p.0, e ∙ ap (λ (x : List ℕ). x ++ flag) p.1 ∙ append_assoc keyword (decimal n) flag))
    (λ n q. (q.0, append_cancel_right front (keyword ++ decimal n) flag (sym e ∙ q.1 ∙ sym (append_assoc keyword (decimal n) flag))))

-- a number has no other bytes than digits
pub lacks : (n c : ℕ) → n < 10 ^ 64 → 57 < c ⊎ c < 48 → (i : ℕ) → i < length (decimal n) → get_or (decimal n) i 0 ≢ c
lacks n c small out i lt e = let d = digit_at (decimal n) i (decimal_digits n small) lt in elim out [ inl a ↦ omega (arith, d) | inr a ↦ omega (arith, d) ]

-- what `strip_prefix` and `strip_suffix` say at a text
pub stripped_front : (p bs : List ℕ) (r : Option (Bor (List ℕ))) → MatchOption r (FindsTextPrefix p bs None)
    (λ x. (n : ℕ) × FindsTextPrefix p bs (Some n) × (x.now ≡ drop n bs) × (length x.now + n ≡ length bs))
    → MatchOption r ((rest : List ℕ) → bs ≢ p ++ rest) (λ x. bs ≡ p ++ x.now)
stripped_front p bs None h = h
stripped_front p bs (Some x) h = h.1.1 ∙ ap (λ (y : List ℕ). p ++ y) (sym h.2)

pub stripped_end : (p bs : List ℕ) (r : Option (Bor (List ℕ))) → MatchOption r (FindsTextSuffix p bs None)
    (λ x. (n : ℕ) × FindsTextSuffix p bs (Some n) × (x.now ≡ take (length bs - n) bs) × (length x.now + n ≡ length bs))
    → MatchOption r ((front : List ℕ) → bs ≢ front ++ p) (λ x. bs ≡ x.now ++ p)
stripped_end p bs None h = h
stripped_end p bs (Some x) h = h.1.1 ∙ ap (λ (y : List ℕ). y ++ p) (sym h.2)

-- ---- a number, and what stands behind it and a space

pub numbered_split : (keyword text rest : List ℕ) (r : Option (Bor (List ℕ) × Bor (List ℕ))) → text ≡ keyword ++ rest
    → IsSplitOnceResult 32 rest r → (z : ℕ × List ℕ) → IsNumbered keyword text z
    → MatchOption r ⊥ (λ x. IsNumber 10 x.0.now z.0 × (x.1.now ≡ z.1))
numbered_split keyword text rest None e h z p =
    split_after 32 rest (decimal z.0) z.1 None h (omega arith) (append_cancel_left keyword rest _ (sym e ∙ p.1))
    (lacks z.0 32 (omega (arith, p.0)) (inr (omega arith)))
numbered_split keyword text rest (Some x) e h z p =
    let s = split_after 32 rest (decimal z.0) z.1 (Some x) h (omega arith) (append_cancel_left keyword rest _ (sym e ∙ p.1))
    (lacks z.0 32 (omega (arith, p.0)) (inr (omega arith))) in
    ((p.0, s.0), s.1)

pub numbered_made : (keyword text rest : List ℕ) (x : Bor (List ℕ) × Bor (List ℕ)) (n : ℕ) → text ≡ keyword ++ rest
    → IsSplitOnceResult 32 rest (Some x) → ReadsAs (IsNumber 10 x.0.now) (Some n)
    → ReadsAs (IsNumbered keyword text) (Some (n, x.1.now))
numbered_made keyword text rest x n e h first =
    let p = split_parts 32 rest (Some x) h (omega arith) in
    let f = found (IsNumber 10 x.0.now) n first in
    one (IsNumbered keyword text) (n, x.1.now)
    (f.0, e ∙ ap (λ (y : List ℕ). keyword ++ y) (p.0 ∙ ap (λ (y : List ℕ). y ++ (32 ∷ x.1.now)) f.1))
    (λ z q. let t = numbered_split keyword text rest (Some x) e h z q in
    let is0 : z.0 ≡ n = only (IsNumber 10 x.0.now) n z.0 first t.0 in
    let is1 : z.1 ≡ x.1.now = sym t.1 in
    (λ i. (is0 i, is1 i)))

-- Q is a number and an R of what stands behind it
pub record IsMadeOf {X : Type 0} (R : List ℕ → X → Type 0) (keyword text : List ℕ) (Q : ℕ × X → Type 0) : Type 0 where
  pub to : (n : ℕ) (rest : List ℕ) (x : X) → IsNumbered keyword text (n, rest) → R rest x → Q (n, x)
  pub from : (z : ℕ × X) → Q z → (rest : List ℕ) × IsNumbered keyword text (z.0, rest) × R rest z.1

pub no_number : {X : Type 0} (R : List ℕ → X → Type 0) (keyword text : List ℕ) (Q : ℕ × X → Type 0) → IsMadeOf R keyword text Q
    → ReadsAs (IsNumbered keyword text) None → (z : ℕ × X) → Q z → ⊥
no_number R keyword text Q made first z q = let m = made.from z q in none (IsNumbered keyword text) (z.0, m.0) first m.1

-- the R of a Q is one of the rest
of_rest : {X : Type 0} (R : List ℕ → X → Type 0) (keyword text : List ℕ) (Q : ℕ × X → Type 0) → IsMadeOf R keyword text Q
    → (n : ℕ) (rest : List ℕ) → ReadsAs (IsNumbered keyword text) (Some (n, rest)) → (z : ℕ × X) → Q z → (z.0 ≡ n) × R rest z.1
of_rest R keyword text Q made n rest first z q =
    let m = made.from z q in
    let e = only (IsNumbered keyword text) (n, rest) (z.0, m.0) first m.1 in
    (ap (λ (p : ℕ × List ℕ). p.0) e, subst (λ (y : List ℕ). R y z.1) (ap (λ (p : ℕ × List ℕ). p.1) e) m.2)

pub no_rest : {X : Type 0} (R : List ℕ → X → Type 0) (keyword text : List ℕ) (Q : ℕ × X → Type 0) → IsMadeOf R keyword text Q
    → (n : ℕ) (rest : List ℕ) → ReadsAs (IsNumbered keyword text) (Some (n, rest)) → ((x : X) → R rest x → ⊥)
    → (z : ℕ × X) → Q z → ⊥
no_rest R keyword text Q made n rest first other z q = other z.1 (of_rest R keyword text Q made n rest first z q).1

pub with_rest : {X : Type 0} (R : List ℕ → X → Type 0) (keyword text : List ℕ) (Q : ℕ × X → Type 0) → IsMadeOf R keyword text Q
    → (n : ℕ) (rest : List ℕ) (x : X) → ReadsAs (IsNumbered keyword text) (Some (n, rest)) → ReadsAs (R rest) (Some x)
    → ReadsAs Q (Some (n, x))
with_rest R keyword text Q made n rest x first second =
    one Q (n, x) (made.to n rest x (found (IsNumbered keyword text) (n, rest) first) (found (R rest) x second))
    (λ z q. let t = of_rest R keyword text Q made n rest first z q in
    let is1 : z.1 ≡ x = only (R rest) x z.1 second t.1 in
    (λ i. (t.0 i, is1 i)))

pub pair_of : (keyword between text : List ℕ) → IsMadeOf (IsKeyed 10 between) keyword text (IsPair keyword between text)
pair_of keyword between text = record {
  to = λ n rest x p q. (p.0, q.0, p.1 ∙ ap (λ (y : List ℕ). keyword ++ (decimal n ++ (32 ∷ y))) q.1);
  from = λ z q. (between ++ decimal z.1, (q.0, q.2), (q.1, refl));
}

pub group_add_of : (text : List ℕ) → IsMadeOf IsChange (codes "gadd ") text (IsGroupAdd text)
group_add_of text = record {
  to = λ n rest x p q. (p.0, q.0, p.1 ∙ ap (λ (y : List ℕ). codes "gadd " ++ (decimal n ++ (32 ∷ y))) q.1);
  from = λ z q. (change_text z.1, (q.0, q.2), (q.1, refl));
}

-- how a call may give up, behind a flag
abbrev pub IsFlaggedWay : List ℕ → List ℕ → SpelledGivingUp → Type 0
IsFlaggedWay flag text how = IsShortGivingUp how × (text ≡ flag ++ giving_up_text how)

pub or_leave_of : (keyword flag text : List ℕ) → IsMadeOf (IsFlaggedWay flag) keyword text (IsOrLeave keyword flag text)
or_leave_of keyword flag text = record {
  to = λ n rest x p q. (p.0, q.0, p.1 ∙ ap (λ (y : List ℕ). keyword ++ (decimal n ++ (32 ∷ y))) q.1);
  from = λ z q. (flag ++ giving_up_text z.1, (q.0, q.2), (q.1, refl));
}

pub flagged_way : (flag rest text : List ℕ) (o : Option SpelledGivingUp) → text ≡ flag ++ rest → ReadsAs (IsGivingUp rest) o
    → ReadsAs (IsFlaggedWay flag text) o
flagged_way flag rest text o e h = same (IsGivingUp rest) (IsFlaggedWay flag text) o h
    (λ n p. (p.0, e ∙ ap (λ (x : List ℕ). flag ++ x) p.1))
    (λ n q. (q.0, append_cancel_left flag rest (giving_up_text n) (sym e ∙ q.1)))
