-- What a rising list has for a counter, and what stands before and behind an entry of it.
use Rattle.std.proofs.Common.{◌≡◌, ◌≢◌, ◌==◌, ℕ, ◌<◌, Bool, true, false, List, [], ◌∷◌, ◌++◌, Some, None}
use Rattle.std.proofs.Common.{if◌then◌else◌}
use Rattle.std.proofs.Common.{refl, sym, ap, ◌∙◌, arith, eq-eqb, ne_eqb}
use Rattle.std.specs.List.{AllByRecursion}
use Rattle.sema_root.specs.Entries.{entry_of, AllBelow, AllAbove, AreRising}

module _ {X : Type 0} (P : X → Type 0) where
  -- what holds of each element of two lists in a row holds of each of the first
  pub All-append_left : (xs ys : List X) → AllByRecursion P (xs ++ ys) → AllByRecursion P xs
  All-append_left [] ys all = tt
  All-append_left (x ∷ xs) ys all = (all.0, All-append_left xs ys all.1)

  -- and of each of the second
  pub All-append_right : (xs ys : List X) → AllByRecursion P (xs ++ ys) → AllByRecursion P ys
  All-append_right [] ys all = all
  All-append_right (x ∷ xs) ys all = All-append_right xs ys all.1

  -- the other way round
  pub All-append : (xs ys : List X) → AllByRecursion P xs → AllByRecursion P ys → AllByRecursion P (xs ++ ys)
  All-append [] ys first second = second
  All-append (x ∷ xs) ys first second = (first.0, All-append xs ys first.1 second)

  -- what follows from P holds wherever P does
  pub All-weaken : (Q : X → Type 0) → ((x : X) → P x → Q x) → (xs : List X) → AllByRecursion P xs → AllByRecursion Q xs
  All-weaken Q weaken [] all = tt
  All-weaken Q weaken (x ∷ xs) all = (weaken x all.0, All-weaken Q weaken xs all.1)

module _ {A : Type 0} where
  -- a list has for its first counter what stands there
  pub entry_of-here : (c : ℕ) (value : A) (rest : List (ℕ × A)) → entry_of c ((c, value) ∷ rest) ≡ Some value
  entry_of-here c value rest = rw (eq-eqb c c refl)

  -- an entry of another counter does not change what the lists round it have
  pub entry_of-skip : (d c : ℕ) (value : A) (xs ys : List (ℕ × A)) → d ≢ c
      → entry_of d (xs ++ (c, value) ∷ ys) ≡ entry_of d (xs ++ ys)
  entry_of-skip d c value [] ys other = rw (ne_eqb c d (λ same. other (sym same)))
  entry_of-skip d c value (x ∷ xs) ys other =
      ap (λ found. if x.0 == d then Some x.1 else found) (entry_of-skip d c value xs ys other)

  -- what the first list lacks is looked for in the second
  pub entry_of-append : (c : ℕ) (xs ys : List (ℕ × A)) → entry_of c xs ≡ None → entry_of c (xs ++ ys) ≡ entry_of c ys
  entry_of-append c [] ys lacks = refl
  entry_of-append c (x ∷ xs) ys lacks = by (x.0 == c) (entry_of-append c xs ys) lacks
    where
      by : (here : Bool) → (entry_of c xs ≡ None → entry_of c (xs ++ ys) ≡ entry_of c ys)
          → (if here then Some x.1 else entry_of c xs) ≡ None → (if here then Some x.1 else entry_of c (xs ++ ys)) ≡ entry_of c ys
      by true further none = cc
      by false further none = further none

  -- a list all below a counter lacks it
  pub entry_of-below : (c : ℕ) (xs : List (ℕ × A)) → AllBelow c xs → entry_of c xs ≡ None
  entry_of-below c [] below = refl
  entry_of-below c (x ∷ xs) below = let apart : x.0 ≢ c = omega arith in rw (ne_eqb x.0 c apart) (entry_of-below c xs below.1)

  -- and so does a list all above it
  pub entry_of-above : (c : ℕ) (xs : List (ℕ × A)) → AllAbove c xs → entry_of c xs ≡ None
  entry_of-above c [] above = refl
  entry_of-above c (x ∷ xs) above = let apart : x.0 ≢ c = omega arith in rw (ne_eqb x.0 c apart) (entry_of-above c xs above.1)

  -- a part of a rising list rises: the first
  pub Rising-append_left : (xs ys : List (ℕ × A)) → AreRising (xs ++ ys) → AreRising xs
  Rising-append_left [] ys rising = tt
  Rising-append_left (x ∷ xs) ys rising = (All-append_left _ xs ys rising.0, Rising-append_left xs ys rising.1)

  -- and the second
  pub Rising-append_right : (xs ys : List (ℕ × A)) → AreRising (xs ++ ys) → AreRising ys
  Rising-append_right [] ys rising = rising
  Rising-append_right (x ∷ xs) ys rising = Rising-append_right xs ys rising.1

  -- what stands before an entry of a rising list is below it
  pub Rising-below : (c : ℕ) (value : A) (xs ys : List (ℕ × A)) → AreRising (xs ++ (c, value) ∷ ys) → AllBelow c xs
  Rising-below c value [] ys rising = tt
  Rising-below c value (x ∷ xs) ys rising =
      ((All-append_right _ xs ((c, value) ∷ ys) rising.0).0, Rising-below c value xs ys rising.1)

  -- and what stands behind it is above it
  pub Rising-above : (c : ℕ) (value : A) (xs ys : List (ℕ × A)) → AreRising (xs ++ (c, value) ∷ ys) → AllAbove c ys
  Rising-above c value xs ys rising = (Rising-append_right xs ((c, value) ∷ ys) rising).0

  -- a list that is all above one counter is all above each smaller one
  pub Above-lower : (low high : ℕ) → low < high → (xs : List (ℕ × A)) → AllAbove high xs → AllAbove low xs
  Above-lower low high less = All-weaken _ _ (λ x above. omega arith)

  -- a list that is all below one counter is all below each larger one
  pub Below-higher : (low high : ℕ) → low < high → (xs : List (ℕ × A)) → AllBelow low xs → AllBelow high xs
  Below-higher low high less = All-weaken _ _ (λ x below. omega arith)

  -- a rising list, an entry above it, and a rising list above that rise together
  pub Rising-join : (c : ℕ) (value : A) (xs ys : List (ℕ × A)) → AreRising xs → AllBelow c xs → AllAbove c ys → AreRising ys
      → AreRising (xs ++ (c, value) ∷ ys)
  Rising-join c value [] ys first below above second = (above, second)
  Rising-join c value (x ∷ xs) ys first below above second = (
    All-append _ xs ((c, value) ∷ ys) first.0 (below.0, Above-lower x.0 c below.0 ys above),
    Rising-join c value xs ys first.1 below.1 above second,
  )

  -- without one of its entries a rising list rises
  pub Rising-without : (c : ℕ) (value : A) (xs ys : List (ℕ × A)) → AreRising (xs ++ (c, value) ∷ ys) → AreRising (xs ++ ys)
  Rising-without c value [] ys rising = rising.1
  Rising-without c value (x ∷ xs) ys rising = (
    All-append _ xs ys (All-append_left _ xs ((c, value) ∷ ys) rising.0) (All-append_right _ xs ((c, value) ∷ ys) rising.0).1,
    Rising-without c value xs ys rising.1,
  )

  -- what lies all above a counter, behind a list, does not change what the list has for it
  pub entry_of-append_above : (c : ℕ) (xs ys : List (ℕ × A)) → AllAbove c ys → entry_of c (xs ++ ys) ≡ entry_of c xs
  entry_of-append_above c [] ys above = entry_of-above c ys above
  entry_of-append_above c (x ∷ xs) ys above = ap (λ found. if x.0 == c then Some x.1 else found) (entry_of-append_above c xs ys above)

  -- round an entry of a rising list: its own counter has its value
  pub Rising-here : (c : ℕ) (value : A) (xs ys : List (ℕ × A)) → AreRising (xs ++ (c, value) ∷ ys)
      → entry_of c (xs ++ (c, value) ∷ ys) ≡ Some value
  Rising-here c value xs ys rising =
      entry_of-append c xs ((c, value) ∷ ys) (entry_of-below c xs (Rising-below c value xs ys rising)) ∙ entry_of-here c value ys

  -- a smaller counter is looked for before it
  pub Rising-left : (d c : ℕ) (value : A) (xs ys : List (ℕ × A)) → AreRising (xs ++ (c, value) ∷ ys) → d < c
      → entry_of d (xs ++ (c, value) ∷ ys) ≡ entry_of d xs
  Rising-left d c value xs ys rising less =
      entry_of-append_above d xs ((c, value) ∷ ys) (less, Above-lower d c less ys (Rising-above c value xs ys rising))

  -- and a larger one behind it
  pub Rising-right : (d c : ℕ) (value : A) (xs ys : List (ℕ × A)) → AreRising (xs ++ (c, value) ∷ ys) → c < d
      → entry_of d (xs ++ (c, value) ∷ ys) ≡ entry_of d ys
  Rising-right d c value xs ys rising more =
      let apart : c ≢ d = omega arith in
      entry_of-append d xs ((c, value) ∷ ys) (entry_of-below d xs (Below-higher c d more xs (Rising-below c value xs ys rising)))
      ∙ rw (ne_eqb c d apart)
