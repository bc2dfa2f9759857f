-- What so many words are, one after the other.
use Rattle.std.proofs.Common.{◌≡◌, ℕ, ◌<◌, List, [], ◌∷◌, length, get_or, Some, Bor, refl, subst, arith}
use Rattle.scenario_text.specs.Phrases.{ReadsAs}
use Rattle.scenario_text.proofs.Parts.{one as one_of, found, only}
use Rattle.program_text.specs.Words.{texts}
use Rattle.program_text.specs.Shapes.{AreFour}

pub texts_length : (ws : List (Bor (List ℕ))) → length (texts ws) ≡ length ws
texts_length [] = refl
texts_length (w ∷ ws) = omega (arith, texts_length ws)

pub texts_one : (ws : List (Bor (List ℕ))) (d : Bor (List ℕ)) → length ws ≡ 1 → texts ws ≡ (get_or ws 0 d).now ∷ []
texts_one [] d e = absurd (omega arith)
texts_one (w ∷ []) d e = refl
texts_one (w ∷ x ∷ ws) d e = absurd (omega arith)

pub texts_four : (ws : List (Bor (List ℕ))) (a b c d : Bor (List ℕ)) → length ws ≡ 4
    → texts ws ≡ (get_or ws 0 a).now ∷ (get_or ws 1 b).now ∷ (get_or ws 2 c).now ∷ (get_or ws 3 d).now ∷ []
texts_four [] a b c d e = absurd (omega arith)
texts_four (t ∷ []) a b c d e = absurd (omega arith)
texts_four (t ∷ u ∷ []) a b c d e = absurd (omega arith)
texts_four (t ∷ u ∷ v ∷ []) a b c d e = absurd (omega arith)
texts_four (t ∷ u ∷ v ∷ w ∷ []) a b c d e = refl
texts_four (t ∷ u ∷ v ∷ w ∷ x ∷ ws) a b c d e = absurd (omega arith)

pub texts_none : (ws : List (Bor (List ℕ))) → length ws ≡ 0 → texts ws ≡ []
texts_none [] e = refl
texts_none (w ∷ ws) e = absurd (omega arith)

pub four_reads : {A B C D : Type 0} (R : List ℕ → A → Type 0) (S : List ℕ → B → Type 0) (T : List ℕ → C → Type 0) (U : List ℕ → D
    → Type 0) (words : List (List ℕ)) (t u v w : List ℕ) (a : A) (b : B) (c : C) (d : D)
    → words ≡ t ∷ u ∷ v ∷ w ∷ [] → ReadsAs (R t) (Some a) → ReadsAs (S u) (Some b) → ReadsAs (T v) (Some c) → ReadsAs (U w) (Some d)
    → (let x : A × B × C × D = (a, b, c, d) in ReadsAs (AreFour R S T U words) (Some x))
four_reads {A} {B} {C} {D} R S T U words t u v w a b c d e ha hb hc hd =
    one_of (AreFour R S T U words) (a, b, c, d)
    (record {
      u = t;
      v = u;
      w = v;
      z = w;
      words_are = e;
      first = found (R t) a ha;
      second = found (S u) b hb;
      third = found (T v) c hc;
      fourth = found (U w) d hd;
    })
    (λ x q.
    let s = q.words_are in
    let et : q.u ≡ t = cc in
    let eu : q.v ≡ u = cc in
    let ev : q.w ≡ v = cc in
    let ew : q.z ≡ w = cc in
    let ea : x.0 ≡ a = only (R t) a x.0 ha (subst (λ (y : List ℕ). R y x.0) et q.first) in
    let eb : x.1 ≡ b = only (S u) b x.1 hb (subst (λ (y : List ℕ). S y x.1) eu q.second) in
    let ec : x.2 ≡ c = only (T v) c x.2 hc (subst (λ (y : List ℕ). T y x.2) ev q.third) in
    let ed : x.3 ≡ d = only (U w) d x.3 hd (subst (λ (y : List ℕ). U y x.3) ew q.fourth) in
    (λ i. (ea i, eb i, ec i, ed i)))

pub texts_some : (ws : List (Bor (List ℕ))) → 0 < length ws → texts ws ≡ [] → ⊥
texts_some [] lt e = omega arith
texts_some (w ∷ ws) lt e = cc
