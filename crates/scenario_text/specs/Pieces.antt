-- How a text is cut into lines.
use Rattle.std.specs.Prelude.{ℕ, zero, suc, Bool, true, false, ◌==◌, cond, List, [], ◌∷◌}

-- the bytes of a line, and whether a line feed ends it
pub record Piece : Type 0 where
  pub text : List ℕ
  pub ended : Bool

-- a byte in front of the first line, or as a line of its own that nothing ends
abbrev pub put : ℕ → List Piece → List Piece
put byte [] = record { text = byte ∷ []; ended = false } ∷ []
put byte (p ∷ ps) = record { text = byte ∷ p.text; ended = p.ended } ∷ ps

-- the lines of a text: each line feed, byte 10, ends one
abbrev pub pieces : List ℕ → List Piece
pieces [] = []
pieces (byte ∷ bytes) =
    cond (byte == 10) (record { text = []; ended = true } ∷ pieces bytes) (put byte (pieces bytes))

-- the bytes of the line behind so many lines: none behind the last
unfoldable pub text_at : ℕ → List Piece → List ℕ
text_at n [] = []
text_at zero (p ∷ ps) = p.text
text_at (suc n) (p ∷ ps) = text_at n ps
