-- What the readers of a line's parts find: R, S and so on are what each word may say.
use Rattle.std.specs.Prelude.{◌≡◌, ◌≢◌, ℕ, true, List, [], ◌∷◌, Option, codes}
use Rattle.std.specs.List.{AllByRecursion}
use Rattle.program_text.specs.declared.words.SpelledOperand.{SpelledOperand}
use Rattle.program_text.specs.declared.words.SpelledPlace.{SpelledPlace}
use Rattle.program_text.specs.Words.{IsNameText, place_text, operand_text, HasPlaceForm, HasOperandForm}
use Rattle.program_text.specs.Lines.{result_words, IsResult, is_sized, is_fixed}

-- ---- so many words

pub record AreOne {A : Type 0} (R : List ℕ → A → Type 0) (words : List (List ℕ)) (x : A) : Type 0 where
  pub w : List ℕ
  pub words_are : words ≡ w ∷ []
  pub said : R w x

pub record AreTwo {A B : Type 0} (R : List ℕ → A → Type 0) (S : List ℕ → B → Type 0)
    (words : List (List ℕ)) (x : A × B) : Type 0 where
  pub v : List ℕ
  pub w : List ℕ
  pub words_are : words ≡ v ∷ w ∷ []
  pub first : R v x.0
  pub second : S w x.1

pub record AreThree {A B C : Type 0} (R : List ℕ → A → Type 0) (S : List ℕ → B → Type 0)
    (T : List ℕ → C → Type 0) (words : List (List ℕ)) (x : A × B × C) : Type 0 where
  pub u : List ℕ
  pub v : List ℕ
  pub w : List ℕ
  pub words_are : words ≡ u ∷ v ∷ w ∷ []
  pub first : R u x.0
  pub second : S v x.1
  pub third : T w x.2

pub record AreFour {A B C D : Type 0} (R : List ℕ → A → Type 0) (S : List ℕ → B → Type 0)
    (T : List ℕ → C → Type 0) (U : List ℕ → D → Type 0) (words : List (List ℕ)) (x : A × B × C × D)
    : Type 0 where
  pub u : List ℕ
  pub v : List ℕ
  pub w : List ℕ
  pub z : List ℕ
  pub words_are : words ≡ u ∷ v ∷ w ∷ z ∷ []
  pub first : R u x.0
  pub second : S v x.1
  pub third : T w x.2
  pub fourth : U z x.3

-- ---- words that say one of few things

abbrev pub IsLifo : List ℕ → Type 0
IsLifo word = word ≡ codes "lifo"

abbrev pub IsHandoff : List ℕ → Type 0
IsHandoff word = word ≡ codes "handoff"

abbrev pub IsMany : List ℕ → Type 0
IsMany word = word ≡ codes "many"

-- ---- parts that several lines share

-- a word or a counter, and what it starts at
pub record AreCells (words : List (List ℕ)) (x : SpelledPlace × SpelledOperand) : Type 0 where
  pub place : HasPlaceForm x.0
  pub size : is_sized x.0.index ≡ true
  pub operand : HasOperandForm x.1
  pub value : is_fixed x.1 ≡ true
  pub spelled : words ≡ place_text x.0 ∷ operand_text x.1 ∷ []

-- a place, an operand and a register that may be left out
pub record AreAccess (words : List (List ℕ))
    (x : SpelledPlace × SpelledOperand × Option (List ℕ)) : Type 0 where
  pub place : HasPlaceForm x.0
  pub operand : HasOperandForm x.1
  pub register : IsResult x.2
  pub spelled : words ≡ place_text x.0 ∷ operand_text x.1 ∷ result_words x.2

-- one name or more
pub record AreNames (words names : List (List ℕ)) : Type 0 where
  pub some : names ≢ []
  pub form : AllByRecursion IsNameText names
  pub spelled : words ≡ names
