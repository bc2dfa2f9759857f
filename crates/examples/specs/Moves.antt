-- What several threads put into a ring and take out of it.
use Rattle.std.specs.Prelude.{◌≡◌, ℕ, ◌+◌, List, [], ◌∷◌, ◌++◌}
use mathlib.Core.Option.{some}
use lib.ListN.{get_elem?}
use Rattle.sync_parts.specs.Counting.{on}
use Rattle.examples.specs.declared.moves.Moves.{Moves}

abbrev pub moves : ℕ → List ℕ → List ℕ → Moves
moves parts put taken = record { parts = parts; put = put; taken = taken }

-- after one more item was put, or taken
abbrev pub with_put : Moves → ℕ → Moves
with_put v x = moves v.parts (v.put ++ x ∷ []) v.taken

abbrev pub with_taken : Moves → ℕ → Moves
with_taken v x = moves v.parts v.put (v.taken ++ x ∷ [])

-- what two passes have, as one
abbrev pub together : Moves → Moves → Moves
together v w = moves (v.parts + w.parts) (v.put ++ w.put) (v.taken ++ w.taken)

-- how many parts the right to know the whole has
abbrev pub all_parts : ℕ
all_parts = 1024

-- the weights of the items, added up
abbrev pub weigh : (ℕ → ℕ) → List ℕ → ℕ
weigh h [] = 0
weigh h (x ∷ xs) = h x + weigh h xs

-- how often x stands in the list
abbrev pub times : ℕ → List ℕ → ℕ
times x items = weigh (λ y. on x y 1) items

-- the same of all passes together
abbrev pub sum_of : (Moves → ℕ) → List Moves → ℕ
sum_of f [] = 0
sum_of f (v ∷ views) = f v + sum_of f views

-- a pass without a part has put and taken nothing
abbrev pub IdleIsEmpty : List Moves → Type 0
IdleIsEmpty views =
    (k : ℕ) (v : Moves) → get_elem? views k ≡ some v → v.parts ≡ 0 → (v.put ≡ []) × (v.taken ≡ [])

-- what was put is what was taken and what the ring holds, however the items are weighed
abbrev pub Balanced : List ℕ → List Moves → Type 0
Balanced items views =
    (sum_of (λ v. v.parts) views ≡ all_parts)
    × ((h : ℕ → ℕ) → sum_of (λ v. weigh h v.put) views ≡ sum_of (λ v. weigh h v.taken) views + weigh h items)
    × IdleIsEmpty views

-- these items are left of what was put, after what was taken
abbrev pub AreLeft : Moves → List ℕ → Type 0
AreLeft v items = (h : ℕ → ℕ) → weigh h v.put ≡ weigh h v.taken + weigh h items
