-- Words of 64 bits, and the order of two tickets by their difference.
use Rattle.std.specs.Prelude.{◌≡◌, ℕ, ◌+◌, ◌-◌, ◌%◌, Bool, nat_le, ℤ, pos, negsuc, ◌+ℤ◌, ◌*ℤ◌, ◌≤ℤ◌, ◌<ℤ◌}
use Rattle.std.specs.Prelude.{◌^◌, ◌<◌, ◌≤◌, IsTrue}

-- the word of ticket number n, where the first ticket has the word `first`
unfoldable pub word_of : ℕ → ℕ → ℕ
word_of first n = (first + n) % 2 ^ 64

-- a word plus 1
unfoldable pub next_word : ℕ → ℕ
next_word a = (a + 1) % 2 ^ 64

-- a - b modulo 2^64
unfoldable pub minus : ℕ → ℕ → ℕ
minus a b = (a + (2 ^ 64 - b)) % 2 ^ 64

-- a - b, as a signed 64-bit number, is below 0: the word a comes before the word b
unfoldable pub less : ℕ → ℕ → Bool
less a b = nat_le (2 ^ 63) (minus a b)

-- x is a - b modulo 2^64, as a signed 64-bit number
pub record IsDifference (a b : ℕ) (x : ℤ) : Type 0 where
  pub low : negsuc (2 ^ 63 - 1) ≤ℤ x
  pub high : x ≤ℤ pos (2 ^ 63 - 1)
  pub rounds : ℤ
  pub same : (x +ℤ pos b) ≡ (pos a +ℤ (rounds *ℤ pos (2 ^ 64)))

-- that number is below 0
abbrev pub IsBefore : ℕ → ℕ → Type 0
IsBefore a b = (x : ℤ) × IsDifference a b x × (x <ℤ pos 0)

-- a word comes before another where this is 1 to 2^63 ahead: a - b, modulo 2^64 and taken from -2^63 to 2^63
-- - 1, is below 0
abbrev pub LessMeans : Type 0
LessMeans =
    ((a b : ℕ) → a < 2 ^ 64 → b < 2 ^ 64 → IsTrue (less a b)
    → (d : ℕ) × (0 < d) × (d ≤ 2 ^ 63) × ((a + d) % 2 ^ 64 ≡ b))
    × ((a b d : ℕ) → a < 2 ^ 64 → 0 < d → d ≤ 2 ^ 63 → (a + d) % 2 ^ 64 ≡ b
    → IsTrue (less a b))

-- the bounds can't be wider: an ungranted ticket seems granted once 2^63 tickets are outstanding before it,
-- and a granted one seems ungranted once 2^63 + 1 tickets were granted since
abbrev pub BoundsAreTight : Type 0
BoundsAreTight =
    ((first granted : ℕ) → IsTrue (less (word_of first (granted + 2 ^ 63)) (word_of first granted)))
    × ((first n : ℕ) → IsTrue (less (word_of first n) (word_of first (n + (2 ^ 63 + 1)))) → ⊥)
