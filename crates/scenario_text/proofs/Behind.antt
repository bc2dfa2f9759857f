-- The text of the line behind so many lines.
use Rattle.std.proofs.Common.{◌≡◌, ℕ, zero, suc, List, [], ◌∷◌, refl, sym, subst, ◌∙◌}
use Rattle.scenario_text.specs.Pieces.{Piece, pieces, text_at}

at_next : (n : ℕ) (p : Piece) (ps : List Piece) → text_at (suc n) (p ∷ ps) ≡ text_at n ps
unfolding text_at
at_next n p ps = refl

at_first : (p : Piece) (ps : List Piece) → text_at zero (p ∷ ps) ≡ p.text
unfolding text_at
at_first p ps = refl

at_none : (n : ℕ) → text_at n [] ≡ []
unfolding text_at
at_none n = refl

-- behind one line more
pub next : (n m : ℕ) (p : Piece) (ps lines : List Piece) (text : List ℕ) → n ≡ suc m → lines ≡ p ∷ ps
    → text_at n lines ≡ text → text_at m ps ≡ text
next n m p ps lines text e f h =
    sym (at_next m p ps) ∙ subst (λ k. text_at k (p ∷ ps) ≡ text) e (subst (λ (ls : List Piece). text_at n ls ≡ text) f h)

-- the first line
pub first : (n : ℕ) (p : Piece) (ps lines : List Piece) (text : List ℕ) → n ≡ zero → lines ≡ p ∷ ps
    → text_at n lines ≡ text → p.text ≡ text
first n p ps lines text e f h =
    sym (at_first p ps) ∙ subst (λ k. text_at k (p ∷ ps) ≡ text) e (subst (λ (ls : List Piece). text_at n ls ≡ text) f h)

-- there is none
pub ended : (n : ℕ) (rest text : List ℕ) → rest ≡ [] → text_at n (pieces rest) ≡ text → rest ≡ text
ended n rest text e h = e ∙ (sym (at_none n) ∙ subst (λ (left : List ℕ). text_at n (pieces left) ≡ text) e h)
