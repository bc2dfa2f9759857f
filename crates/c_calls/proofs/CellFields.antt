-- The data field of a `Cell`. Assumes `Logic`.
use Rattle.std.proofs.Common.{◌≡◌, T, length, arith, List, [], ◌∷◌, ◌++◌, refl, ap, ◌∙◌, lit<}
use seplogic.Ra.Ura.{Ura}
use mir.Syntax.{ty_ptr, ty_struct, tcons, tnil}
use mir.Val.{Val, vstruct, vcons, vnil, of_list, has_ty, WT}
use base.Logic.{ent, emp}
use types.Logic.{Logic, sem}
use denote.RattleType.{RattleType}
use denote.Laws.{Is}
use denote.RawPtr.{Ptr, block_ptr, null_ptr, ptr_val}
use denote.Shadow.{makes_shadow}
use denote.Struct.Struct.{Struct}
use denote.Struct.Owning.{shape}
use Rattle.c_calls.specs.contracts.cell.Cell as cell

abbrev pub cell_of : Ptr → Val
cell_of p = vstruct (vcons (ptr_val p) vnil)

pub cell_good : (p : Ptr) → T (has_ty (ty_struct [] (tcons ty_ptr tnil)) (cell_of p)) × WT (cell_of p)
cell_good (block_ptr b o) = (tt, (tt, tt))
cell_good null_ptr = (tt, (record { fits = lit< tt }, tt))

abbrev pub Data : RattleType
Data = Struct (shape cell.the_type)

pub told : (p : Ptr) (vs : List Val) → Is Data (p, tt) vs → vs ≡ cell_of p ∷ []
told p vs is = is.1.0 ∙ ap (λ (ws : List Val). vstruct (of_list (ws ++ [])) ∷ []) is.1.1.0

pub made : {M : Type 1} {𝓤 : Ura M} (𝓛 : Logic 𝓤) (p : Ptr) → ent 𝓤 (emp 𝓤) (sem 𝓛 (Data.own_val (p, tt) (cell_of p ∷ [])))
made 𝓛 p = makes_shadow 𝓛 (Data.own_val (p, tt) (cell_of p ∷ [])) (λ vss. (tt, (tt, tt))) ((ptr_val p ∷ [], tt), (refl, (refl, tt)))

-- a list of one
pub one_of : {X : Type 0} (xs : List X) → length xs ≡ 1 → (x : X) × (xs ≡ x ∷ [])
one_of [] e = absurd (omega (arith, e))
one_of (x ∷ []) e = (x, refl)
one_of (x ∷ y ∷ ys) e = absurd (omega (arith, e))
