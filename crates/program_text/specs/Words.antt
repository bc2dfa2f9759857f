-- The words of a line, and what one word may be. Numbers are unbounded here.
use Rattle.std.specs.Prelude.{⊤, ◌≡◌, ◌≢◌, ℕ, ◌<◌, ◌^◌, Bool, true, false, cond, not, nat_lt, ◌||◌, ◌&&◌}
use Rattle.std.specs.Prelude.{◌==◌, List, [], ◌∷◌, ◌++◌, length, map, Option, Some, None, codes}
use Rattle.std.specs.List.{list_all}
use Rattle.std.specs.Fmt.{decimal}
use Rattle.program_text.specs.declared.words.Number.{Number}
use Rattle.program_text.specs.declared.words.Number.TheVariants.{Plus, Minus}
use Rattle.program_text.specs.declared.words.SpelledOperand.{SpelledOperand}
use Rattle.program_text.specs.declared.words.SpelledOperand.TheVariants as operand
use Rattle.program_text.specs.declared.words.SpelledPlace.{SpelledPlace}
use denote.Ref.{Bor}

-- ---- where words begin and end

-- what stands before the first `#`, byte 35
abbrev pub without_comment : List ℕ → List ℕ
without_comment [] = []
without_comment (byte ∷ bytes) = cond (byte == 35) [] (byte ∷ without_comment bytes)

-- a byte in front of the first of the parts
abbrev pub put : ℕ → List (List ℕ) → List (List ℕ)
put byte [] = (byte ∷ []) ∷ []
put byte (part ∷ parts) = (byte ∷ part) ∷ parts

-- the parts between spaces, byte 32, of which some may be empty
abbrev pub parts_of : List ℕ → List (List ℕ)
parts_of [] = [] ∷ []
parts_of (byte ∷ bytes) = cond (byte == 32) ([] ∷ parts_of bytes) (put byte (parts_of bytes))

-- a part and those behind it, unless it is empty
abbrev pub with_part : List ℕ → List (List ℕ) → List (List ℕ)
with_part [] words = words
with_part (byte ∷ bytes) words = (byte ∷ bytes) ∷ words

abbrev pub not_empty : List (List ℕ) → List (List ℕ)
not_empty [] = []
not_empty (part ∷ parts) = with_part part (not_empty parts)

-- the words of a line: runs of bytes other than the space
abbrev pub words_of : List ℕ → List (List ℕ)
words_of line = not_empty (parts_of line)

-- what the references lead to
abbrev pub texts : List (Bor (List ℕ)) → List (List ℕ)
texts words = map (λ (word : Bor (List ℕ)). word.now) words

-- ---- names

abbrev pub is_letter : ℕ → Bool
is_letter byte =
    (not (nat_lt byte 97) && not (nat_lt 122 byte)) || (not (nat_lt byte 65) && not (nat_lt 90 byte))

-- a letter, a digit or `_`
abbrev pub is_inside : ℕ → Bool
is_inside byte = is_letter byte || (not (nat_lt byte 48) && not (nat_lt 57 byte)) || byte == 95

abbrev pub are_inside : List ℕ → Bool
are_inside bytes = list_all is_inside bytes

-- a letter and up to 23 letters, digits and `_`
abbrev pub is_plain : List ℕ → Bool
is_plain [] = false
is_plain (byte ∷ bytes) =
    is_letter byte && (are_inside (byte ∷ bytes) && not (nat_lt 24 (length (byte ∷ bytes))))

-- of these only `me` is no name
pub record IsNameText (name : List ℕ) : Type 0 where
  pub plain : is_plain name ≡ true
  pub other : name ≢ codes "me"

pub record IsName (word name : List ℕ) : Type 0 where
  pub form : IsNameText name
  pub spelled : word ≡ name

-- ---- numbers

abbrev pub number_text : Number → List ℕ
number_text (Plus n) = decimal n
number_text (Minus n) = codes "-" ++ decimal n

-- at most 20 digits, and no `-0`
abbrev pub HasNumberForm : Number → Type 0
HasNumberForm (Plus n) = n < 10 ^ 20
HasNumberForm (Minus n) = (0 < n) × (n < 10 ^ 20)

pub record IsNumberWord (word : List ℕ) (number : Number) : Type 0 where
  pub form : HasNumberForm number
  pub spelled : word ≡ number_text number

-- ---- operands and places

abbrev pub operand_text : SpelledOperand → List ℕ
operand_text (operand.Number n) = number_text n
operand_text operand.Me = codes "me"
operand_text (operand.Name name) = name

abbrev pub HasOperandForm : SpelledOperand → Type 0
HasOperandForm (operand.Number n) = HasNumberForm n
HasOperandForm operand.Me = ⊤
HasOperandForm (operand.Name name) = IsNameText name

pub record IsOperand (word : List ℕ) (e : SpelledOperand) : Type 0 where
  pub form : HasOperandForm e
  pub spelled : word ≡ operand_text e

-- an index stands in brackets right behind the name
abbrev pub index_text : Option SpelledOperand → List ℕ
index_text None = []
index_text (Some e) = codes "[" ++ (operand_text e ++ codes "]")

abbrev pub HasIndexForm : Option SpelledOperand → Type 0
HasIndexForm None = ⊤
HasIndexForm (Some e) = HasOperandForm e

abbrev pub place_text : SpelledPlace → List ℕ
place_text place = place.name ++ index_text place.index

abbrev pub HasPlaceForm : SpelledPlace → Type 0
HasPlaceForm place = IsNameText place.name × HasIndexForm place.index

pub record IsPlace (word : List ℕ) (place : SpelledPlace) : Type 0 where
  pub form : HasPlaceForm place
  pub spelled : word ≡ place_text place
