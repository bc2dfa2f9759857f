-- A text whose tables are told within so many columns of characters.
use Rattle.std.specs.Prelude.{◌≡◌, ◌≢◌, ◌≤◌, ◌⊎◌, ℕ, Bool, true, false, ◌&&◌, ◌||◌, ◌==◌, nat_le, max, IsTrue}
use Rattle.std.specs.Prelude.{List, [], ◌∷◌, ◌++◌, length, flat_map, Option, Some, None}
use Rattle.std.specs.List.{AllByRecursion}

-- a line of a text: what is told of it, what is left out, and what ends it
pub record Line : Type 0 where
  pub kept : List ℕ
  pub left : List ℕ
  pub ended : List ℕ

abbrev pub whole_line : Line → List ℕ
whole_line l = (l.kept ++ l.left) ++ l.ended

abbrev pub told_line : Line → List ℕ
told_line l = l.kept ++ l.ended

-- the head of a table begins with `step`, and a row of it with a number
abbrev pub may_be_row : List ℕ → Bool
may_be_row [] = false
may_be_row (byte ∷ bytes) = byte == 115 || (nat_le 48 byte && nat_le byte 57)

-- a line feed ends it, and none stands within. Nothing is left out of it but of a row, of which no more is told
-- then than fits: the first column of a table has 4 characters, and stays
pub record IsCut (most : ℕ) (l : Line) : Type 0 where
  pub one : AllByRecursion (λ byte. byte ≢ 10) (l.kept ++ l.left)
  pub ended : (l.ended ≡ 10 ∷ []) ⊎ ((l.ended ≡ []) × (l.left ≡ []))
  pub cut : (l.left ≡ []) ⊎ (IsTrue (may_be_row (l.kept ++ l.left)) × (length l.kept ≤ max most 4))

-- the text is told so, line by line
abbrev pub IsFitted : ℕ → List ℕ → List ℕ → Type 0
IsFitted most text told = (lines : List Line) × AllByRecursion (IsCut most) lines
    × (text ≡ flat_map whole_line lines) × (told ≡ flat_map told_line lines)
