-- What the reader of a journal's text answers where it has no journal.
use Rattle.std.specs.Prelude.{ℕ, ◌<◌, List, length}
use Rattle.journal.specs.declared.journal_fault.JournalFault.{JournalFault}
use Rattle.journal.specs.declared.journal_fault.JournalFault.TheVariants.{Form, NoMemory}
use Rattle.journal.specs.JournalText.{IsJournalOf, IsFaultOf}
use Rattle.journal.specs.Reading.{IsOnly, IsNone}

-- the number is that of the text's first faulty line, and the text has no journal; memory is asked for by
-- lines that are right alone, so the text has a first line and that isn't faulty
abbrev pub IsFault : List ℕ → JournalFault → Type 0
IsFault text (Form line) = IsOnly (IsFaultOf text) line × IsNone (IsJournalOf text)
IsFault text NoMemory = (0 < length text) × (IsFaultOf text 1 → ⊥)
