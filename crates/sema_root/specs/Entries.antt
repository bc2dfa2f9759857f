-- What a map from counters is as a list: one entry a counter, in rising order.
use Rattle.std.specs.Prelude.{◌≡◌, ◌==◌, ◌<◌, ℕ, List, [], ◌∷◌, ◌++◌, Option, Some, None, ⊤, if◌then◌else◌}
use Rattle.std.specs.List.{AllByRecursion}

module _ {A : Type 0} where
  -- what the list has for a counter
  abbrev pub entry_of : ℕ → List (ℕ × A) → Option A
  entry_of counter [] = None
  entry_of counter (entry ∷ rest) =
      if entry.0 == counter then Some entry.1 else entry_of counter rest

  -- each entry's counter is below this one
  abbrev pub AllBelow : ℕ → List (ℕ × A) → Type 0
  AllBelow counter = AllByRecursion (λ entry. entry.0 < counter)

  -- each entry's counter is above this one
  abbrev pub AllAbove : ℕ → List (ℕ × A) → Type 0
  AllAbove counter = AllByRecursion (λ entry. counter < entry.0)

  -- the counters rise, so none stands twice
  abbrev pub AreRising : List (ℕ × A) → Type 0
  AreRising [] = ⊤
  AreRising (entry ∷ rest) = AllAbove entry.0 rest × AreRising rest

  -- one entry comes in at its place in the order, and the others stay
  pub record Adds (old new : List (ℕ × A)) (counter : ℕ) (value : A) : Type 0 where
    pub before : List (ℕ × A)
    pub behind : List (ℕ × A)
    pub were : old ≡ before ++ behind
    pub are : new ≡ before ++ (counter, value) ∷ behind
    pub below : AllBelow counter before
    pub above : AllAbove counter behind

  -- one entry goes, and the others stay
  pub record Removes (old new : List (ℕ × A)) (counter : ℕ) : Type 0 where
    pub before : List (ℕ × A)
    pub value : A
    pub behind : List (ℕ × A)
    pub were : old ≡ before ++ (counter, value) ∷ behind
    pub are : new ≡ before ++ behind
