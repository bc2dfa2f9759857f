-- What the readers of a line and its parts find.
use Rattle.std.specs.Prelude.{⊤, ◌≡◌, ◌↔◌, ℕ, ◌<◌, ◌≤◌, List, [], ◌∷◌, ◌++◌, Option, Some}
use Rattle.std.specs.Fmt.{decimal}
use Rattle.journal.specs.declared.entry.JournalEntry.{JournalEntry}
use Rattle.journal.specs.declared.line.JournalLine.{JournalLine}
use Rattle.journal.specs.declared.line.JournalLine.TheVariants.{Counter, List as NotifyList, Entry as Tells}
use Rattle.journal.specs.JournalLine.{IsShort, IsOneOf, HasForm, entry_text, line_text}

-- o is the one thing of which P holds, or None where there is none
abbrev pub ReadsAs : {A : Type 0} → (A → Type 0) → Option A → Type 0
ReadsAs {A} P o = (a : A) → P a ↔ (o ≡ Some a)

-- x is the one thing of which P holds
abbrev pub IsOnly : {A : Type 0} → (A → Type 0) → A → Type 0
IsOnly {A} P x = (a : A) → P a ↔ (a ≡ x)

-- nothing is such that P holds of it
abbrev pub IsNone : {A : Type 0} → (A → Type 0) → Type 0
IsNone {A} P = (a : A) → P a → ⊥

-- the byte is a digit
abbrev pub IsDigit : ℕ → Type 0
IsDigit byte = (48 ≤ byte) × (byte < 58)

-- no digit comes first, so a number may end before it
abbrev pub EndsNumber : List ℕ → Type 0
EndsNumber [] = ⊤
EndsNumber (byte ∷ bytes) = IsDigit byte → ⊥

-- there is a byte, and the first is no digit
abbrev pub PartsNumbers : List ℕ → Type 0
PartsNumbers [] = ⊥
PartsNumbers (byte ∷ bytes) = IsDigit byte → ⊥

-- these things, of which S holds, are spelled so
abbrev pub IsSpelled : {A : Type 0} → (A → Type 0) → (A → List ℕ) → List ℕ → A → Type 0
IsSpelled S spelling text a = S a × (text ≡ spelling a)

-- a number of at most twenty digits, without a leading zero
abbrev pub IsNumber : List ℕ → ℕ → Type 0
IsNumber text n = IsSpelled IsShort decimal text n

-- a number of which S holds, behind a word, and the rest, which begins with no digit
abbrev pub IsAfter : (ℕ → Type 0) → List ℕ → List ℕ → ℕ × List ℕ → Type 0
IsAfter S word text z = S z.0 × (text ≡ word ++ (decimal z.0 ++ z.1)) × EndsNumber z.1

-- a number of which S holds, behind a word, and what stands behind it
abbrev pub with_number : {A : Type 0} → List ℕ → (A → List ℕ) → ℕ × A → List ℕ
with_number word more z = word ++ (decimal z.0 ++ more z.1)

-- a number between a word and the end
abbrev pub last_text : List ℕ → List ℕ → ℕ → List ℕ
last_text word end n = word ++ (decimal n ++ end)

-- the text is such a number
abbrev pub IsLast : List ℕ → List ℕ → List ℕ → ℕ → Type 0
IsLast word end = IsSpelled IsShort (last_text word end)

-- two numbers of at most twenty digits
abbrev pub AreTwo : ℕ × ℕ → Type 0
AreTwo z = IsShort z.0 × IsShort z.1

-- each behind a word
abbrev pub two_text : List ℕ → List ℕ → List ℕ → ℕ × ℕ → List ℕ
two_text first second end = with_number first (last_text second end)

-- the text is two such numbers
abbrev pub IsLastTwo : List ℕ → List ℕ → List ℕ → List ℕ → ℕ × ℕ → Type 0
IsLastTwo first second end = IsSpelled AreTwo (two_text first second end)

-- three numbers of at most twenty digits
abbrev pub AreThree : ℕ × (ℕ × ℕ) → Type 0
AreThree z = IsShort z.0 × AreTwo z.1

-- each behind a word
abbrev pub three_text : List ℕ → List ℕ → List ℕ → List ℕ → ℕ × (ℕ × ℕ) → List ℕ
three_text first second third end = with_number first (two_text second third end)

-- the text is three such numbers
abbrev pub IsLastThree : List ℕ → List ℕ → List ℕ → List ℕ → List ℕ → ℕ × (ℕ × ℕ) → Type 0
IsLastThree first second third end = IsSpelled AreThree (three_text first second third end)

-- the number of something declared behind a keyword, and then one number
abbrev pub IsIndexed : ℕ → List ℕ → List ℕ → List ℕ → List ℕ → ℕ × ℕ → Type 0
IsIndexed count keyword first end =
    IsSpelled (λ z. IsOneOf count z.0 × IsShort z.1) (with_number keyword (last_text first end))

-- and then two
abbrev pub IsIndexedTwo : ℕ → List ℕ → List ℕ → List ℕ → List ℕ → List ℕ → ℕ × (ℕ × ℕ) → Type 0
IsIndexedTwo count keyword first second end =
    IsSpelled (λ z. IsOneOf count z.0 × AreTwo z.1) (with_number keyword (two_text first second end))

-- and then three
abbrev pub IsIndexedThree : ℕ → List ℕ → List ℕ → List ℕ → List ℕ → List ℕ → List ℕ
    → ℕ × (ℕ × (ℕ × ℕ)) → Type 0
IsIndexedThree count keyword first second third end =
    IsSpelled (λ z. IsOneOf count z.0 × AreThree z.1)
    (with_number keyword (three_text first second third end))

-- the text spells this entry, of so many counters and lists
abbrev pub IsEntryOf : ℕ → ℕ → List ℕ → JournalEntry → Type 0
IsEntryOf counters lists text entry = HasForm counters lists entry × (text ≡ entry_text entry)

-- the text spells this head line
abbrev pub IsHeadOf : List ℕ → JournalLine → Type 0
IsHeadOf text (Counter start) = IsShort start × (text ≡ line_text (Counter start))
IsHeadOf text (NotifyList first) = IsShort first × (text ≡ line_text (NotifyList first))
IsHeadOf text (Tells entry) = ⊥
