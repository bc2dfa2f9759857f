-- What the pool's rule says, of the free seats and of what each pass knows.
use Rattle.std.specs.Prelude.{◌≡◌, ◌≢◌, ◌⊎◌, ℕ, zero, suc, ◌+◌, ◌≤◌, Option, Some, None, List, [], ◌∷◌, ◌++◌, length, map, All}
use mathlib.Core.Option.{some}
use lib.ListN.{get_elem?}
use Rattle.step_table.specs.Counting.{among}
use Rattle.seat_pool.specs.declared.loans.Loans.{Loans}
use Rattle.seat_pool.specs.declared.loans.Loans.TheVariants.{Unfilled, Lent, Joined}

-- so many numbers, from 0 on
abbrev pub numbers_below : ℕ → List ℕ
numbers_below zero = []
numbers_below (suc n) = numbers_below n ++ n ∷ []

module _ {H : Type 0} where
  -- what the seats are of, where the pass knows it, and the numbers of those that are lent to it
  abbrev pub home_of : Loans H → Option H
  home_of Unfilled = None
  home_of (Lent h numbers) = Some h
  home_of Joined = None

  abbrev pub lent_to : Loans H → List ℕ
  lent_to Unfilled = []
  lent_to (Lent h numbers) = numbers
  lent_to Joined = []

  abbrev pub without_loans : Loans H → Loans H
  without_loans (Lent h numbers) = Lent h []
  without_loans v = v

  abbrev pub together : Loans H → Loans H → Loans H
  together (Lent h numbers) w = Lent h (numbers ++ lent_to w)
  together v w = v

  abbrev pub first_loan : Loans H → Loans H
  first_loan (Lent h (n ∷ numbers)) = Lent h (n ∷ [])
  first_loan v = v

  abbrev pub other_loans : Loans H → Loans H
  other_loans (Lent h (n ∷ numbers)) = Lent h numbers
  other_loans v = Joined

  -- two seats that are lent to one pass have different numbers
  abbrev pub AreApart : Loans H → Type 0
  AreApart v = (m n : ℕ) → lent_to v ≡ m ∷ n ∷ [] → m ≢ n

  -- a number of each pass, added up
  abbrev pub sum_of : (Loans H → ℕ) → List (Loans H) → ℕ
  sum_of f [] = 0
  sum_of f (v ∷ views) = f v + sum_of f views

  -- how often k is lent, and how many numbers are
  abbrev pub among_lent : ℕ → List (Loans H) → ℕ
  among_lent k views = sum_of (λ v. among k (lent_to v)) views

  abbrev pub count_lent : List (Loans H) → ℕ
  count_lent views = sum_of (λ v. length (lent_to v)) views

-- where no seat was put in none is free; and of what the seats are of, those which are free or lent to one pass
-- are no more than there are
abbrev pub HasRoom : {T H : Type 0} → (H → ℕ) → Loans H → List T → Type 0
HasRoom {T} {H} count v items =
    (v ≡ Unfilled → items ≡ []) × ((h : H) → home_of v ≡ Some h → length items + length (lent_to v) ≤ count h)

module _ {T H : Type 0} (home : T → H) (number : T → ℕ) (rests : T → Type 0) where
  -- the seat x is lent: it is of what the pass knew
  abbrev pub HasTaken : Loans H → T → Loans H → Type 0
  HasTaken v x w = (w ≡ Lent (home x) (number x ∷ lent_to v)) × (home_of v ≡ Some (home x)) × rests x

  -- each free seat is of h, and rests; each pass knows h, but those that were joined; each number is free or lent
  -- once at most; and as many seats are free or lent as h has
  pub record AreLent (count : H → ℕ) (h : H) (items : List T) (views : List (Loans H)) : Type 0 where
    pub free : All (λ x. (home x ≡ h) × rests x) items
    pub known : (k : ℕ) (v : Loans H) → get_elem? views k ≡ some v → (home_of v ≡ Some h) ⊎ (v ≡ Joined)
    pub once : (k : ℕ) → among k (map number items) + among_lent k views ≤ 1
    pub all : length items + count_lent views ≡ count h

  -- no seat was put in; or each is free, or lent once
  abbrev pub AreEachOnce : (H → ℕ) → List T → List (Loans H) → Type 0
  AreEachOnce count items views =
      ((items ≡ []) × (views ≡ Unfilled ∷ [])) ⊎ ((h : H) × AreLent count h items views)
