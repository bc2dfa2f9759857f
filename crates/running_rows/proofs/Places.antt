-- Who sits where, after a token's view has changed or a token was made.
use Rattle.std.proofs.Common.{◌≡◌, ◌≢◌, ℕ, zero, suc, ◌<◌, List, [], ◌∷◌, ◌++◌, length, set, sym, refl, ap, ◌∙◌, subst, inl}
use Rattle.std.proofs.Common.{inr, arith}
use mathlib.Core.Logic.{dite}
use mathlib.Core.Option.{some, some-injective, some-ne-none}
use native.Mathlib.Decide.{ℕ_discrete}
use lib.ListN.{get_elem?}
use Rattle.atomic_table.proofs.Lists.{set_here, set_else, at_longer}
use Rattle.step_table.specs.World.{put}
use Rattle.step_table.proofs.Sums.{put_here, put_else}
use Rattle.running_rows.specs.declared.view.View.{View}
use Rattle.running_rows.specs.declared.view.Seated.{Seated}
use Rattle.running_rows.specs.Family.{Family}
use Rattle.running_rows.specs.Rule.{In, HasSeat, IsSomeones, IsSeated}

-- where something stands in a list is below its length
pub at_low : {A : Type 0} (l : List A) (i : ℕ) (a : A) → get_elem? l i ≡ some a → i < length l
at_low [] i a e = absurd (some-ne-none a (sym e))
at_low (x ∷ xs) zero a e = omega arith
at_low (x ∷ xs) (suc i) a e = let h = at_low xs i a e in omega arith

-- what stands at one place is one
pub same_at : {A : Type 0} (l : List A) (i j : ℕ) (a b : A) → i ≡ j → get_elem? l i ≡ some a → get_elem? l j ≡ some b → a ≡ b
same_at l i j a b e at_i at_j = some-injective a b (sym at_i ∙ ap (get_elem? l) e ∙ at_j)

module _ {S V T K : Type 0} (f : Family S V T K) where
  -- a view has changed, and has the seats that it had
  pub replaced : (views : List (View V T)) (id : ℕ) (v w : View V T) → get_elem? views id ≡ some v → IsSomeones f w → (j n : ℕ)
      → (j ≡ id → HasSeat n v → HasSeat n w)
      → IsSeated f views j n → IsSeated f (set views id w) j n
  replaced views id v w at someones j n keeps o = dite (ℕ_discrete j id)
      (λ e. subst (λ i. IsSeated f (set views id w) i n) (sym e)
      (w, set_here views id w (at_low views id v at), someones, keeps e (subst (HasSeat n) (same_at views j id o.0 v e o.1 at) o.3)))
      (λ ne. (o.0, set_else views id j w ne ∙ o.1, o.2, o.3))

  pub longer : (views : List (View V T)) (x : View V T) (j n : ℕ) → IsSeated f views j n → IsSeated f (views ++ x ∷ []) j n
  longer views x j n o = (o.0, at_longer views (x ∷ []) j o.0 o.1, o.2, o.3)

module _ {V T : Type 0} where
  -- these seats sit at another place
  abbrev pub moved : (ℕ → ℕ) → List (Seated V T) → ℕ → ℕ → ℕ
  moved spot [] j = spot
  moved spot (g ∷ gs) j = put (moved spot gs j) g.number j

  pub moved_in : (spot : ℕ → ℕ) (gs : List (Seated V T)) (j : ℕ) (g : Seated V T) → In g gs → moved spot gs j g.number ≡ j
  moved_in spot [] j g h = absurd h
  moved_in spot (x ∷ gs) j g (inl e) = subst (λ (y : Seated V T). put (moved spot gs j) x.number j y.number ≡ j) e (put_here (moved spot gs j) x.number j)
  moved_in spot (x ∷ gs) j g (inr h) = dite (ℕ_discrete g.number x.number)
      (λ e. ap (put (moved spot gs j) x.number j) e ∙ put_here (moved spot gs j) x.number j)
      (λ ne. put_else (moved spot gs j) x.number j g.number ne ∙ moved_in spot gs j g h)

  pub moved_else : (spot : ℕ → ℕ) (gs : List (Seated V T)) (j n : ℕ)
      → ((g : Seated V T) → In g gs → g.number ≢ n) → moved spot gs j n ≡ spot n
  moved_else spot [] j n none = refl
  moved_else spot (x ∷ gs) j n none =
      put_else (moved spot gs j) x.number j n (λ e. none x (inl refl) (sym e)) ∙ moved_else spot gs j n (λ g h. none g (inr h))
