-- How a text is cut into lines, each with the byte 10 that ends it.
use Rattle.std.specs.Prelude.{ℕ, ◌==◌, cond, List, [], ◌∷◌, take}
use Rattle.std.specs.List.{concat}

-- a byte in front of the first line, or as a line of its own that nothing ends
abbrev pub put : ℕ → List (List ℕ) → List (List ℕ)
put byte [] = (byte ∷ []) ∷ []
put byte (line ∷ more) = (byte ∷ line) ∷ more

-- the lines of a text
abbrev pub lines : List ℕ → List (List ℕ)
lines [] = []
lines (byte ∷ bytes) = cond (byte == 10) ((byte ∷ []) ∷ lines bytes) (put byte (lines bytes))

-- the first so many lines of a text, one behind the other
abbrev pub first_lines : ℕ → List ℕ → List ℕ
first_lines count text = concat (take count (lines text))
