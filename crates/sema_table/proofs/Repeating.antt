-- A try after tries that were lost.
use Rattle.std.proofs.Common.{ℕ, [], ◌∷◌, subst}
use Rattle.step_table.specs.declared.entry.Entry.{Entry}
use Rattle.step_table.specs.declared.entry.Entry.TheVariants.{Take}
use Rattle.step_table.specs.declared.place.Place.{Place}
use Rattle.sema_table.specs.Seats.{Token}
use Rattle.sema_table.specs.Walks.{Walked, Moves, moved_to}
use Rattle.sema_table.proofs.Walking.{walked_then}

module _ (s0 s t : Token) (p q : Place) (before : Walked s0 p s (moved_to s0 p) [] 0) where
  pub then_moved : Moves s p t q → Moves s0 p t q
  then_moved y = walked_then s0 s t p p q [] [] 0 0 before y

  pub then_told : (e : Entry) → Walked s p t (moved_to s q) (e ∷ []) 0 → Walked s0 p t (moved_to s0 q) (e ∷ []) 0
  then_told e y = walked_then s0 s t p p q [] (e ∷ []) 0 0 before y

  -- the unit is for the seat itself
  pub then_took : (c : ℕ) → Walked s p t (moved_to s q) (Take c s.me.0.own.number ∷ []) 1
      → Walked s0 p t (moved_to s0 q) (Take c s0.me.0.own.number ∷ []) 1
  then_took c y = subst (λ i. Walked s0 p t (moved_to s0 q) (Take c i ∷ []) 1) before.number_is
      (walked_then s0 s t p p q [] (Take c s.me.0.own.number ∷ []) 0 1 before y)
