-- What the faults of a journal's text print.
use Rattle.std.specs.Prelude.{ℕ, List, ◌++◌, codes}
use Rattle.std.specs.Fmt.{decimal}
use Rattle.journal.specs.declared.journal_fault.JournalFault.{JournalFault}
use Rattle.journal.specs.declared.journal_fault.JournalFault.TheVariants.{Form, NoMemory}

-- the line's number, or that memory was short
abbrev pub fault_text : JournalFault → List ℕ
fault_text (Form line) = codes "line " ++ (decimal line ++ codes ": form")
fault_text NoMemory = codes "no memory"
