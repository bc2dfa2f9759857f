-- A journal's text: the journal that it spells, or its first faulty line.
use Rattle.std.specs.Prelude.{◌≡◌, ℕ, ◌+◌, ◌*◌, ◌<◌, ◌^◌, List, [], ◌∷◌, ◌++◌, length, All, ◌⊎◌}
use Rattle.journal.specs.declared.journal.Journal.{Journal}
use Rattle.journal.specs.declared.line.JournalLine.{JournalLine}
use Rattle.journal.specs.declared.line.JournalLine.TheVariants.{Counter, List as NotifyList, Entry as Tells}
use Rattle.journal.specs.Cutting.{lines}
use Rattle.journal.specs.JournalLine.{IsShort, HasForm, line_text}

-- the journal of no lines
abbrev pub no_lines : Journal
no_lines = record { starts = []; lists = 0; heads = 0; entries = [] }

-- the journal after one line more
abbrev pub with_line : Journal → JournalLine → Journal
with_line j (Counter start) = record j { starts = j.starts ++ (start ∷ []); heads = j.heads + 1 }
with_line j (NotifyList first) = record j { lists = j.lists + 1; heads = j.heads + 1 }
with_line j (Tells entry) = record j { entries = j.entries ++ (entry ∷ []) }

-- the line may come behind this journal: a head line stands before all entries, and an entry names what is
-- declared
abbrev pub MayFollow : Journal → JournalLine → Type 0
MayFollow j (Counter start) = IsShort start × (j.entries ≡ [])
MayFollow j (NotifyList first) = IsShort first × (j.entries ≡ [])
MayFollow j (Tells entry) = HasForm (length j.starts) j.lists entry

-- the text is the spelling of a line that may come behind this journal
pub record Spells (before : Journal) (text : List ℕ) (line : JournalLine) : Type 0 where
  pub follows : MayFollow before line
  pub spelled : text ≡ line_text line

-- behind the one journal, these lines make the other
abbrev pub Makes : Journal → List (List ℕ) → Journal → Type 0
Makes before [] journal = journal ≡ before
Makes before (text ∷ more) journal =
    (line : JournalLine) × Spells before text line × Makes (with_line before line) more journal

-- the text spells this journal
abbrev pub IsJournalOf : List ℕ → Journal → Type 0
IsJournalOf text journal = Makes no_lines (lines text) journal

-- the number, from 1, of the first line behind this journal that spells none
abbrev pub IsFirstFault : Journal → List (List ℕ) → ℕ → Type 0
IsFirstFault before [] n = ⊥
IsFirstFault before (text ∷ more) n =
    ((n ≡ before.heads + length before.entries + 1) × ((line : JournalLine) → Spells before text line → ⊥))
    ⊎ ((line : JournalLine) × Spells before text line × IsFirstFault (with_line before line) more n)

-- the text's first faulty line has this number
abbrev pub IsFaultOf : List ℕ → ℕ → Type 0
IsFaultOf text n = IsFirstFault no_lines (lines text) n

-- what is known of each journal that was read: each line has six bytes or more
pub record IsSound (j : Journal) : Type 0 where
  pub few : 6 * (j.heads + length j.entries) < 2 ^ 64
  pub starts : All IsShort j.starts
  pub entries : All (HasForm (length j.starts) j.lists) j.entries
