-- When a journal is lawful: its entries, as the laws have them.
use Rattle.std.specs.Prelude.{ℕ, List, map, slice_index}
use Rattle.waiters.specs.declared.wait.WaitId.{WaitId}
use Rattle.step_table.specs.declared.entry.Entry.{Entry}
use Rattle.step_table.specs.declared.entry.Entry.TheVariants.{Add, AddMany, Take, Queue, Leave, Withdraw, Ticket, Grant, Forgo}
use Rattle.step_table.specs.Core.{sema_entries, list_entries}
use Rattle.step_table.specs.Journal.{Plain, plain_start, replay, IsLawful}
use Rattle.step_table.specs.ListWorld.{Numbers}
use Rattle.step_law_lists.specs.ListLawful.{told, Follows}
use Rattle.journal.specs.declared.entry.JournalWait.{JournalWait}
use Rattle.journal.specs.declared.entry.JournalEntry as journal
use Rattle.journal.specs.declared.entry.JournalEntry.TheVariants as text

-- a wait as the laws have it
abbrev pub wait_of : JournalWait → WaitId
wait_of w = record { seat = w.seat; turn = w.turn }

-- an entry as the laws have it
abbrev pub entry_of : journal.JournalEntry → Entry
entry_of (text.Add c s) = Add c s
entry_of (text.AddMany c s n) = AddMany c n s
entry_of (text.Take c s) = Take c s
entry_of (text.Queue c w lifo) = Queue c (wait_of w) lifo
entry_of (text.Leave c w s) = Leave c (wait_of w) s
entry_of (text.Withdraw c w) = Withdraw c (wait_of w)
entry_of (text.Ticket l s) = Ticket l s
entry_of (text.Grant l upto s) = Grant l upto s
entry_of (text.Forgo l n s) = Forgo l n s

-- all entries
abbrev pub entries_of : List journal.JournalEntry → List Entry
entries_of entries = map entry_of entries

-- the counters at their starts, and nobody waits
abbrev pub start_of : List ℕ → Plain
start_of starts = plain_start (λ c. slice_index starts c)

-- the entries of counters are lawful, and so are those of each list
abbrev pub IsLawfulJournal : List ℕ → List Entry → Type 0
IsLawfulJournal starts entries =
    IsLawful (start_of starts) (sema_entries entries) × ((l : ℕ) → Follows (list_entries l entries))

-- the numbers and lists of the counters behind these entries
abbrev pub plain_after : List ℕ → List Entry → Plain
plain_after starts entries = replay (start_of starts) (sema_entries entries)

-- the tickets of the list l behind them: how many were handed out, which are passed, and which are gone
abbrev pub told_after : List Entry → ℕ → Numbers
told_after entries l = told (list_entries l entries)
