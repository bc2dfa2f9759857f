-- Lemmas on how many values are left from a key on: a walk along the keys may stop where none is.
use Rattle.std.proofs.Common.{◌≡◌, ℕ, zero, suc, ◌+◌, ◌≤◌, List, [], ◌∷◌, drop, get_or, Option, Some, None}
use Rattle.std.proofs.Common.{refl, sym, ap, ◌∙◌, inl, inr, arith}
use Rattle.std.proofs.lemmas.Bool.{cases_lt}
use Rattle.slab.specs.Slab.{Slab, get}
use Rattle.waiters.specs.Slabs.{HasAll}
use Rattle.waiters.proofs.SlotLemmas.{HasBelow, values_in, some_more, none_more}

module _ {T : Type 0} where
  -- how many values the slab has from this key on
  abbrev pub left_from : Slab T → ℕ → ℕ
  left_from slab key = values_in (drop key slab.slots)

  past_value : (slots : List (Option T)) (key : ℕ) (value : T) → get_or slots key None ≡ Some value
      → values_in (drop key slots) ≡ suc (values_in (drop (suc key) slots))
  past_value [] key value has = absurd (cc)
  past_value (None ∷ rest) zero value has = absurd (cc)
  past_value (Some found ∷ rest) zero value has = some_more found rest
  past_value (slot ∷ rest) (suc key) value has = past_value rest key value has

  past_vacant : (slots : List (Option T)) (key : ℕ) → get_or slots key None ≡ None
      → values_in (drop key slots) ≡ values_in (drop (suc key) slots)
  past_vacant [] zero vacant = refl
  past_vacant [] (suc key) vacant = refl
  past_vacant (None ∷ rest) zero vacant = none_more rest
  past_vacant (Some found ∷ rest) zero vacant = absurd (cc)
  past_vacant (slot ∷ rest) (suc key) vacant = past_vacant rest key vacant

  no_more : (slots : List (Option T)) (key at : ℕ) → values_in (drop key slots) ≡ 0 → key ≤ at → get_or slots at None ≡ None
  no_more [] key at none past = refl
  no_more (Some value ∷ rest) zero at none past = absurd (omega (arith, some_more value rest, none))
  no_more (None ∷ rest) zero zero none past = refl
  no_more (None ∷ rest) zero (suc at) none past = no_more rest zero at (sym (none_more rest) ∙ none) (omega arith)
  no_more (slot ∷ rest) (suc key) zero none past = absurd (omega (arith, past))
  no_more (slot ∷ rest) (suc key) (suc at) none past = no_more rest key at none (omega (arith, past))

  -- past a value one fewer is left
  pub left_from-value : (slab : Slab T) (key : ℕ) (value : T) → get slab key ≡ Some value
      → left_from slab key ≡ left_from slab (key + 1) + 1
  left_from-value slab key value has =
      let next : suc key ≡ key + 1 = omega arith in
      omega (arith, past_value slab.slots key value has ∙ ap (λ later. suc (values_in (drop later slab.slots))) next)

  -- and past a vacant key as many
  pub left_from-vacant : (slab : Slab T) (key : ℕ) → get slab key ≡ None → left_from slab key ≡ left_from slab (key + 1)
  left_from-vacant slab key vacant =
      let next : suc key ≡ key + 1 = omega arith in
      past_vacant slab.slots key vacant ∙ ap (λ later. values_in (drop later slab.slots)) next

  -- where none is left, what was put is all
  pub HasAll-none_left : (slab other : Slab T) (key : ℕ) → left_from other key ≡ 0 → HasBelow slab other key → HasAll slab other
  HasAll-none_left slab other key none below at found read = elim (cases_lt at key) [
    | inl within ↦ below at found within read
    | inr past ↦ let wrong = sym read ∙ no_more other.slots key at none (omega arith) in absurd (cc)
  ]
