-- The calls that are left out keep the tickets that a seat holds, where each that takes or spends one does.
use Rattle.std.proofs.Common.{length-drop, ◌-◌, ◌<◌, ◌↔◌, IsTrue, IfSome, slice_get, get_or, zero}
use Rattle.std.proofs.Common.{◌≡◌, ◌⊎◌, ℕ, suc, ◌+◌, ◌≤◌, Bool, true, false, if◌then◌else◌, ◌==◌, List, [], ◌∷◌, length, take, drop, inl, inr}
use Rattle.std.proofs.Common.{refl, sym, ap, ◌∙◌, subst, arith, eqb-true}
use Rattle.std.specs.Prelude.{All, min, slice_index_or}
use Rattle.std.proofs.Math.Seq.{take-add}
use Rattle.std.proofs.lemmas.List.{take_all}
use native.Mathlib.Decide.{dec_le}
use Rattle.step_table.specs.declared.call.Call.{Call}
use Rattle.step_table.specs.declared.call.Call.TheVariants.{Add, Wait, WaitOrLeave}
use Rattle.step_table.specs.Scenario.{holding_after, holds_ticket}
use Rattle.step_law_whole.proofs.RunCalls.{holding_append}
use Rattle.step_core.specs.Skips.{IsHeldAlike}

module _ (before after : List Call) (l : ℕ) where
  abbrev Alike : Type 0
  Alike = holds_ticket l after ≡ holds_ticket l before

  module _ (calls : List Call) where
    abbrev Kept : List Call → Type 0
    Kept calls = (held : Bool) → holding_after l held calls ≡ held

    one_more : (call : Call) → IsHeldAlike before after call → Alike ⊎ Kept calls → Alike ⊎ Kept (call ∷ calls)
    one_more call here (inl same) = inl same
    one_more (Add m) here (inr rest) = by (m == l) refl
      where
        by : (b : Bool) → (m == l) ≡ b → Alike ⊎ Kept (Add m ∷ calls)
        by true e = inl (subst (λ k. holds_ticket k after ≡ holds_ticket k before) (eqb-true m l e) here)
        by false e = inr (λ held. ap (λ b. holding_after l (if b then true else held) calls) e ∙ rest held)
    one_more (Wait m) here (inr rest) = by (m == l) refl
      where
        by : (b : Bool) → (m == l) ≡ b → Alike ⊎ Kept (Wait m ∷ calls)
        by true e = inl (subst (λ k. holds_ticket k after ≡ holds_ticket k before) (eqb-true m l e) here)
        by false e = inr (λ held. ap (λ b. holding_after l (if b then false else held) calls) e ∙ rest held)
    one_more (WaitOrLeave m how) here (inr rest) = by (m == l) refl
      where
        by : (b : Bool) → (m == l) ≡ b → Alike ⊎ Kept (WaitOrLeave m how ∷ calls)
        by true e = inl (subst (λ k. holds_ticket k after ≡ holds_ticket k before) (eqb-true m l e) here)
        by false e = inr (λ held. ap (λ b. holding_after l (if b then false else held) calls) e ∙ rest held)
    one_more _ here (inr rest) = inr rest

  -- none of these calls is on the list, or it is held alike
  kept_or_alike : (calls : List Call) → All (IsHeldAlike before after) calls → Alike ⊎ ((held : Bool) → holding_after l held calls ≡ held)
  kept_or_alike [] all = inr (λ held. refl)
  kept_or_alike (call ∷ calls) all =
      one_more calls call (all 0 call (omega arith)) (kept_or_alike calls (λ k d less. all (suc k) d (omega arith)))

module _ (calls : List Call) (n k : ℕ) where
  pub skips_kept : All (IsHeldAlike (take n calls) (take (n + k) calls)) (take k (drop n calls))
      → (l : ℕ) → holds_ticket l (take (n + k) calls) ≡ holds_ticket l (take n calls)
  skips_kept all l = elim (kept_or_alike (take n calls) (take (n + k) calls) l (take k (drop n calls)) all) [
    | inl same ↦ same
    | inr same ↦ ap (holds_ticket l) (take-add n k calls) ∙ holding_append l (take n calls) false (take k (drop n calls)) ∙ same _
  ]

  pub skips_named : ((l : ℕ) → holds_ticket l (take (n + k) calls) ≡ holds_ticket l (take n calls))
      → (left_out : List Call) → All (IsHeldAlike (take n calls) (take (n + k) calls)) left_out
  skips_named same left_out i d less = by (slice_index_or left_out i d)
    where
      by : (call : Call) → IsHeldAlike (take n calls) (take (n + k) calls) call
      by (Add l) = same l
      by (Wait l) = same l
      by (WaitOrLeave l how) = same l
      by _ = tt

-- so many more calls, of which there may be fewer
pub take_there : (calls : List Call) (n k rest : ℕ) → n + rest ≡ length calls → take (n + min k rest) calls ≡ take (n + k) calls
take_there calls n k rest long = by (dec_le k rest)
  where
    by : Dec (k ≤ rest) → take (n + min k rest) calls ≡ take (n + k) calls
    by (yes few) = let least : min k rest ≡ k = omega arith in ap (λ m. take (n + m) calls) least
    by (no many) = take_all (n + min k rest) calls (omega arith) ∙ sym (take_all (n + k) calls (omega arith))

-- what the code finds of the calls that are left out
pub skips_tell : (calls : List Call) (i skips few : ℕ) → i < length calls
    → few ≡ min skips (length (take (length calls - (i + 1)) (drop (i + 1) calls))) → (b : Bool)
    → IsTrue b ↔ All (IsHeldAlike (take (i + 1) calls) (take (i + 1 + few) calls)) (take few (take (length calls - (i + 1)) (drop (i + 1) calls)))
    → IsTrue b ↔ ((l : ℕ) → holds_ticket l (take (i + 1 + skips) calls) ≡ holds_ticket l (take (i + 1) calls))
skips_tell calls i skips few within least b is =
    let n : ℕ = i + 1 in
    let long = length-drop n calls in
    let whole : take (length calls - n) (drop n calls) ≡ drop n calls = take_all (length calls - n) (drop n calls) (omega arith) in
    let rest : few ≡ min skips (length calls - n) = least ∙ ap (λ k. min skips k) (ap (λ l. length l) whole ∙ long) in
    let there : take (n + few) calls ≡ take (n + skips) calls
    = ap (λ k. take (n + k) calls) rest ∙ take_there calls n skips (length calls - n) (omega arith) in (
      (λ t l. ap (holds_ticket l) (sym there)
          ∙ skips_kept calls n few (subst (λ r. All (IsHeldAlike (take n calls) (take (n + few) calls)) (take few r)) whole (is.0 t)) l),
      (λ keeps. is.1 (skips_named calls n few (λ l. ap (holds_ticket l) there ∙ keeps l) (take few (take (length calls - n) (drop n calls))))),
    )

-- what holds of each call before a number that isn't less than how many there are holds of each
past_none : (calls : List Call) (k : ℕ) (P : Call → Type 0) → length calls ≤ k → IfSome (slice_get calls k) P
past_none [] k P past = tt
past_none (call ∷ calls) zero P past = absurd (omega arith)
past_none (call ∷ calls) (suc k) P past = past_none calls k P (omega arith)

pub each_kept : (calls : List Call) (n : ℕ) (P : ℕ → Call → Type 0) → length calls ≤ n
    → ((k : ℕ) → k < n → IfSome (slice_get calls k) (P k)) → (k : ℕ) → IfSome (slice_get calls k) (P k)
each_kept calls n P long below k = by (dec_le (suc k) n)
  where
    by : Dec (suc k ≤ n) → IfSome (slice_get calls k) (P k)
    by (yes less) = below k less
    by (no past) = past_none calls k (P k) (omega arith)

pub kept_here : (calls : List Call) (i : ℕ) (call : Call) (P : Call → Type 0) → i < length calls → call ≡ get_or calls i call → P call
    → IfSome (slice_get calls i) P
kept_here [] i call P less at is = absurd (omega arith)
kept_here (x ∷ calls) zero call P less at is = subst P at is
kept_here (x ∷ calls) (suc i) call P less at is = kept_here calls i call P (omega arith) at is
