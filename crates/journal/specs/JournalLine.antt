-- The lines of a journal's text, and the one spelling of each. Numbers are unbounded here.
use Rattle.std.specs.Prelude.{ℕ, ◌<◌, ◌^◌, Bool, true, false, List, [], ◌∷◌, ◌++◌, codes}
use Rattle.std.specs.Fmt.{decimal}
use Rattle.journal.specs.declared.entry.JournalWait.{JournalWait}
use Rattle.journal.specs.declared.entry.JournalEntry.{JournalEntry}
use Rattle.journal.specs.declared.entry.JournalEntry.TheVariants.{Add, AddMany, Take, Queue, Leave, Ticket}
use Rattle.journal.specs.declared.entry.JournalEntry.TheVariants.{Withdraw, Grant, Forgo}
use Rattle.journal.specs.declared.line.JournalLine.{JournalLine}
use Rattle.journal.specs.declared.line.JournalLine.TheVariants.{Counter, List as NotifyList, Entry as Tells}

-- the byte that ends a line
abbrev pub line_feed : List ℕ
line_feed = 10 ∷ []

-- a seat, a dot and a turn
abbrev pub wait_text : JournalWait → List ℕ → List ℕ
wait_text w more = decimal w.seat ++ (codes "." ++ (decimal w.turn ++ more))

-- what ends the line of a wait that was queued: at the front, if lifo
abbrev pub queue_end : Bool → List ℕ
queue_end false = line_feed
queue_end true = codes " lifo" ++ line_feed

-- how an entry is spelled
abbrev pub entry_text : JournalEntry → List ℕ
entry_text (Add c s) = codes "add " ++ (decimal c ++ (codes " " ++ (decimal s ++ line_feed)))
entry_text (AddMany c s n) =
    codes "add " ++ (decimal c ++ (codes " " ++ (decimal s ++ (codes " many " ++ (decimal n ++ line_feed)))))
entry_text (Take c s) = codes "take " ++ (decimal c ++ (codes " " ++ (decimal s ++ line_feed)))
entry_text (Queue c w lifo) = codes "queue " ++ (decimal c ++ (codes " " ++ wait_text w (queue_end lifo)))
entry_text (Leave c w s) =
    codes "leave " ++ (decimal c ++ (codes " " ++ wait_text w (codes " " ++ (decimal s ++ line_feed))))
entry_text (Withdraw c w) = codes "withdraw " ++ (decimal c ++ (codes " " ++ wait_text w line_feed))
entry_text (Ticket l s) = codes "ticket " ++ (decimal l ++ (codes " " ++ (decimal s ++ line_feed)))
entry_text (Grant l upto s) =
    codes "grant " ++ (decimal l ++ (codes " " ++ (decimal upto ++ (codes " " ++ (decimal s ++ line_feed)))))
entry_text (Forgo l n s) =
    codes "forgo " ++ (decimal l ++ (codes " " ++ (decimal n ++ (codes " " ++ (decimal s ++ line_feed)))))

-- how a line is spelled
abbrev pub line_text : JournalLine → List ℕ
line_text (Counter start) = codes "counter " ++ (decimal start ++ line_feed)
line_text (NotifyList first) = codes "list " ++ (decimal first ++ line_feed)
line_text (Tells entry) = entry_text entry

-- a number of at most twenty digits
abbrev pub IsShort : ℕ → Type 0
IsShort n = n < 10 ^ 20

-- such a number of one of so many things that are declared, counted from 0
abbrev pub IsOneOf : ℕ → ℕ → Type 0
IsOneOf count n = IsShort n × (n < count)

-- the numbers of the entry have at most twenty digits, and it names what is declared
abbrev pub HasForm : ℕ → ℕ → JournalEntry → Type 0
HasForm counters lists (Add c s) = IsOneOf counters c × IsShort s
HasForm counters lists (AddMany c s n) = IsOneOf counters c × (IsShort s × IsShort n)
HasForm counters lists (Take c s) = IsOneOf counters c × IsShort s
HasForm counters lists (Queue c w lifo) = IsOneOf counters c × (IsShort w.seat × IsShort w.turn)
HasForm counters lists (Leave c w s) = IsOneOf counters c × (IsShort w.seat × (IsShort w.turn × IsShort s))
HasForm counters lists (Withdraw c w) = IsOneOf counters c × (IsShort w.seat × IsShort w.turn)
HasForm counters lists (Ticket l s) = IsOneOf lists l × IsShort s
HasForm counters lists (Grant l upto s) = IsOneOf lists l × (IsShort upto × IsShort s)
HasForm counters lists (Forgo l n s) = IsOneOf lists l × (IsShort n × IsShort s)
