-- How the lines of a lock program are printed, word by word.
use Rattle.std.specs.Prelude.{⊤, ◌≡◌, ◌≢◌, ℕ, Bool, true, false, List, [], ◌∷◌, ◌++◌, Option, Some, None}
use Rattle.std.specs.Prelude.{codes}
use Rattle.std.specs.List.{AllByRecursion}
use Rattle.program_code.specs.Signs.{relation_text, operator_text}
use Rattle.program_text.specs.declared.reader.verb.Verb.{Verb}
use Rattle.program_text.specs.declared.reader.verb.Verb.TheVariants as verb
use Rattle.program_text.specs.declared.words.SpelledOperand.{SpelledOperand}
use Rattle.program_text.specs.declared.words.SpelledOperand.TheVariants as operand
use Rattle.program_text.specs.declared.lines.SpelledShare.{SpelledShare}
use Rattle.program_text.specs.declared.lines.SpelledShare.TheVariants as share
use Rattle.program_text.specs.declared.lines.SpelledLine.{SpelledLine}
use Rattle.program_text.specs.declared.lines.SpelledLine.TheVariants.{Blank, Const, Word, Counter}
use Rattle.program_text.specs.declared.lines.SpelledLine.TheVariants.{List as NotifyList, Registers, Section}
use Rattle.program_text.specs.declared.lines.SpelledLine.TheVariants.{Program, Seats, Most, Apart, Passed, Finally}
use Rattle.program_text.specs.declared.lines.SpelledLine.TheVariants.{Load, Store, Swap, Add, Exchange, Await}
use Rattle.program_text.specs.declared.lines.SpelledLine.TheVariants.{Acquire, Release, Ticket, Wait, One, All}
use Rattle.program_text.specs.declared.lines.SpelledLine.TheVariants.{Park, Unpark, Out, Let, Compute, If, Goto}
use Rattle.program_text.specs.declared.lines.SpelledLine.TheVariants.{Label, In, Ask, Assert, Fail, Do, Return}
use Rattle.program_text.specs.Verb.{verb_text}
use Rattle.program_text.specs.Words.{IsNameText, number_text, HasNumberForm, operand_text, HasOperandForm}
use Rattle.program_text.specs.Words.{place_text, HasPlaceForm, without_comment}
use Rattle.program_text.specs.Words.{words_of}

-- ---- parts

-- a register that may be left out
abbrev pub result_words : Option (List ℕ) → List (List ℕ)
result_words None = []
result_words (Some name) = name ∷ []

abbrev pub IsResult : Option (List ℕ) → Type 0
IsResult None = ⊤
IsResult (Some name) = IsNameText name

abbrev pub lifo_words : Bool → List (List ℕ)
lifo_words false = []
lifo_words true = codes "lifo" ∷ []

abbrev pub share_words : SpelledShare → List (List ℕ)
share_words share.One = []
share_words share.Handoff = codes "handoff" ∷ []
share_words (share.Many e) = codes "many" ∷ operand_text e ∷ []

abbrev pub HasShareForm : SpelledShare → Type 0
HasShareForm share.One = ⊤
HasShareForm share.Handoff = ⊤
HasShareForm (share.Many e) = HasOperandForm e

-- a number or a constant: there is no seat whose number it could be
abbrev pub is_fixed : SpelledOperand → Bool
is_fixed (operand.Number n) = true
is_fixed operand.Me = false
is_fixed (operand.Name name) = true

abbrev pub is_fixed_index : Option SpelledOperand → Bool
is_fixed_index None = true
is_fixed_index (Some e) = is_fixed e

-- no index, or a number: the length of an array
abbrev pub is_sized : Option SpelledOperand → Bool
is_sized None = true
is_sized (Some (operand.Number n)) = true
is_sized (Some operand.Me) = false
is_sized (Some (operand.Name name)) = false

-- ---- lines

-- the first word of a line, but for a blank one, registers and a label
abbrev pub verb_of : SpelledLine → Option Verb
verb_of Blank = None
verb_of (Label name) = None
verb_of (Registers names) = None
verb_of (Const name v) = Some verb.Const
verb_of (Word w v) = Some verb.Word
verb_of (Counter c v) = Some verb.Counter
verb_of (NotifyList name) = Some verb.List
verb_of (Section name) = Some verb.Section
verb_of (Program name) = Some verb.Program
verb_of (Seats k name) = Some verb.Seats
verb_of (Most s n) = Some verb.Most
verb_of (Apart s t) = Some verb.Apart
verb_of (Passed s n) = Some verb.Passed
verb_of (Finally w r v) = Some verb.Finally
verb_of (Load w name) = Some verb.Load
verb_of (Store w e) = Some verb.Store
verb_of (Swap w e o) = Some verb.Swap
verb_of (Add w e o) = Some verb.Add
verb_of (Exchange w e f o) = Some verb.Exchange
verb_of (Await w r e o) = Some verb.Await
verb_of (Acquire c lifo) = Some verb.Acquire
verb_of (Release c s) = Some verb.Release
verb_of (Ticket l) = Some verb.Ticket
verb_of (Wait l) = Some verb.Wait
verb_of (One l) = Some verb.One
verb_of (All l) = Some verb.All
verb_of (Park w e) = Some verb.Park
verb_of (Unpark w e) = Some verb.Unpark
verb_of (Out s) = Some verb.Out
verb_of (Let r e) = Some verb.Let
verb_of (Compute r e o f) = Some verb.Let
verb_of (If e r f a) = Some verb.If
verb_of (Goto a) = Some verb.Goto
verb_of (In s) = Some verb.In
verb_of (Ask s) = Some verb.Ask
verb_of (Assert e r f) = Some verb.Assert
verb_of Fail = Some verb.Fail
verb_of (Do p) = Some verb.Do
verb_of Return = Some verb.Return

-- the words behind it
abbrev pub arguments_of : SpelledLine → List (List ℕ)
arguments_of Blank = []
arguments_of (Label name) = (name ++ codes ":") ∷ []
arguments_of (Registers names) = codes "register" ∷ names
arguments_of (Const name v) = name ∷ number_text v ∷ []
arguments_of (Word w v) = place_text w ∷ operand_text v ∷ []
arguments_of (Counter c v) = place_text c ∷ operand_text v ∷ []
arguments_of (NotifyList name) = name ∷ []
arguments_of (Section name) = name ∷ []
arguments_of (Program name) = name ∷ []
arguments_of (Seats k name) = number_text k ∷ name ∷ []
arguments_of (Most s n) = s ∷ number_text n ∷ []
arguments_of (Apart s t) = s ∷ t ∷ []
arguments_of (Passed s n) = s ∷ number_text n ∷ []
arguments_of (Finally w r v) = place_text w ∷ relation_text r ∷ operand_text v ∷ []
arguments_of (Load w name) = place_text w ∷ name ∷ []
arguments_of (Store w e) = place_text w ∷ operand_text e ∷ []
arguments_of (Swap w e o) = place_text w ∷ operand_text e ∷ result_words o
arguments_of (Add w e o) = place_text w ∷ operand_text e ∷ result_words o
arguments_of (Exchange w e f o) = place_text w ∷ operand_text e ∷ operand_text f ∷ result_words o
arguments_of (Await w r e o) = place_text w ∷ relation_text r ∷ operand_text e ∷ result_words o
arguments_of (Acquire c lifo) = place_text c ∷ lifo_words lifo
arguments_of (Release c s) = place_text c ∷ share_words s
arguments_of (Ticket l) = l ∷ []
arguments_of (Wait l) = l ∷ []
arguments_of (One l) = l ∷ []
arguments_of (All l) = l ∷ []
arguments_of (Park w e) = place_text w ∷ operand_text e ∷ []
arguments_of (Unpark w e) = place_text w ∷ operand_text e ∷ []
arguments_of (Out s) = s ∷ []
arguments_of (Let r e) = r ∷ operand_text e ∷ []
arguments_of (Compute r e o f) = r ∷ operand_text e ∷ operator_text o ∷ operand_text f ∷ []
arguments_of (If e r f a) = operand_text e ∷ relation_text r ∷ operand_text f ∷ codes "goto" ∷ a ∷ []
arguments_of (Goto a) = a ∷ []
arguments_of (In s) = s ∷ []
arguments_of (Ask s) = s ∷ []
arguments_of (Assert e r f) = operand_text e ∷ relation_text r ∷ operand_text f ∷ []
arguments_of Fail = []
arguments_of (Do p) = p ∷ []
arguments_of Return = []

abbrev pub behind : Option Verb → List (List ℕ) → List (List ℕ)
behind None words = words
behind (Some v) words = verb_text v ∷ words

-- the words of a line
abbrev pub line_words : SpelledLine → List (List ℕ)
line_words line = behind (verb_of line) (arguments_of line)

-- its names are names, its numbers have at most 20 digits, and no `me` stands where there is no seat
abbrev pub HasForm : SpelledLine → Type 0
HasForm Blank = ⊤
HasForm (Label name) = IsNameText name
HasForm (Const name v) = IsNameText name × HasNumberForm v
HasForm (Word w v) = HasPlaceForm w × (is_sized w.index ≡ true) × HasOperandForm v × (is_fixed v ≡ true)
HasForm (Counter c v) = HasPlaceForm c × (is_sized c.index ≡ true) × HasOperandForm v × (is_fixed v ≡ true)
HasForm (NotifyList name) = IsNameText name
HasForm (Registers names) = (names ≢ []) × AllByRecursion IsNameText names
HasForm (Section name) = IsNameText name
HasForm (Program name) = IsNameText name
HasForm (Seats k name) = HasNumberForm k × IsNameText name
HasForm (Most s n) = IsNameText s × HasNumberForm n
HasForm (Apart s t) = IsNameText s × IsNameText t
HasForm (Passed s n) = IsNameText s × HasNumberForm n
HasForm (Finally w r v) =
    HasPlaceForm w × (is_fixed_index w.index ≡ true) × HasOperandForm v × (is_fixed v ≡ true)
HasForm (Load w name) = HasPlaceForm w × IsNameText name
HasForm (Store w e) = HasPlaceForm w × HasOperandForm e
HasForm (Swap w e o) = HasPlaceForm w × HasOperandForm e × IsResult o
HasForm (Add w e o) = HasPlaceForm w × HasOperandForm e × IsResult o
HasForm (Exchange w e f o) = HasPlaceForm w × HasOperandForm e × HasOperandForm f × IsResult o
HasForm (Await w r e o) = HasPlaceForm w × HasOperandForm e × IsResult o
HasForm (Acquire c lifo) = HasPlaceForm c
HasForm (Release c s) = HasPlaceForm c × HasShareForm s
HasForm (Ticket l) = IsNameText l
HasForm (Wait l) = IsNameText l
HasForm (One l) = IsNameText l
HasForm (All l) = IsNameText l
HasForm (Park w e) = HasPlaceForm w × HasOperandForm e
HasForm (Unpark w e) = HasPlaceForm w × HasOperandForm e
HasForm (Out s) = IsNameText s
HasForm (Let r e) = IsNameText r × HasOperandForm e
HasForm (Compute r e o f) = IsNameText r × HasOperandForm e × HasOperandForm f
HasForm (If e r f a) = HasOperandForm e × HasOperandForm f × IsNameText a
HasForm (Goto a) = IsNameText a
HasForm (In s) = IsNameText s
HasForm (Ask s) = IsNameText s
HasForm (Assert e r f) = HasOperandForm e × HasOperandForm f
HasForm Fail = ⊤
HasForm (Do p) = IsNameText p
HasForm Return = ⊤

-- the words are a line's
pub record AreWordsOf (words : List (List ℕ)) (line : SpelledLine) : Type 0 where
  pub form : HasForm line
  pub spelled : words ≡ line_words line

-- behind the verb stand the words of the line
pub record AreArgumentsOf (v : Verb) (words : List (List ℕ)) (line : SpelledLine) : Type 0 where
  pub verb_is : verb_of line ≡ Some v
  pub form : HasForm line
  pub spelled : words ≡ arguments_of line

-- what stands before a comment has the words of the line
abbrev pub Says : List ℕ → SpelledLine → Type 0
Says text line = AreWordsOf (words_of (without_comment text)) line

-- the words are a label's
pub record IsLabel (words : List (List ℕ)) (name : List ℕ) : Type 0 where
  pub form : IsNameText name
  pub spelled : words ≡ (name ++ codes ":") ∷ []
