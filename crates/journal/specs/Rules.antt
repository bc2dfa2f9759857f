-- The rules that an entry may break behind a lawful journal.
use Rattle.std.specs.Prelude.{◌≡◌, ◌≢◌, ℕ, ◌+◌, ◌<◌, ◌≤◌, List, [], ◌∷◌, ◌++◌, length, ◌↔◌}
use Rattle.waiters.specs.declared.wait.WaitId.{WaitId}
use Rattle.step_table.specs.declared.entry.Entry.{Entry}
use Rattle.step_table.specs.declared.entry.Entry.TheVariants.{Take, Queue, Leave, Withdraw, Grant, Forgo}
use Rattle.step_table.specs.Core.{sema_entries}
use Rattle.step_table.specs.Journal.{Owes, queued, left, withdrawn}
use Rattle.step_table.specs.Counting.{times, among}
use Rattle.journal.specs.declared.journal.Journal.{Journal}
use Rattle.journal.specs.declared.rule.Rule.{Rule}
use Rattle.journal.specs.declared.rule.Rule.TheVariants.{NoUnit, NotFirst, NotQueued, GrantedBefore}
use Rattle.journal.specs.declared.rule.Rule.TheVariants.{PassedBefore, GoneBefore, NotHandedOut}
use Rattle.journal.specs.declared.rule.Rule.TheVariants.{QueuedTwice, LeftTwice, NoRelease}
use Rattle.journal.specs.declared.verdict.Verdict.{Verdict}
use Rattle.journal.specs.declared.verdict.Verdict.TheVariants.{Lawful, Unlawful}
use Rattle.journal.specs.LawfulJournal.{entries_of, IsLawfulJournal, plain_after, told_after}

-- the entry breaks the rule behind those before it: a unit is taken where there is none; the wait that leaves
-- isn't the first of its counter, or one that is withdrawn isn't in its list; no ticket is granted that wasn't
-- passed, or one that wasn't handed out; a ticket that goes was passed, has gone, or wasn't handed out; the wait
-- was queued before, or has left or was withdrawn; the seat's last release wasn't of this counter, or none of its
-- units is left
abbrev pub Breaks : Rule → List ℕ → List Entry → Entry → Type 0
Breaks NoUnit starts before (Take c s) = (plain_after starts before).numbers c ≡ 0
Breaks NotFirst starts before (Leave c w s) = (l : List WaitId) → (plain_after starts before).lists c ≢ w ∷ l
Breaks NotQueued starts before (Withdraw c w) = times w ((plain_after starts before).lists c) ≡ 0
Breaks GrantedBefore starts before (Grant l upto s) = upto ≤ (told_after before l).passed
Breaks PassedBefore starts before (Forgo l n s) = n < (told_after before l).passed
Breaks GoneBefore starts before (Forgo l n s) = 0 < among n (told_after before l).gone
Breaks NotHandedOut starts before (Grant l upto s) = (told_after before l).handed < upto
Breaks NotHandedOut starts before (Forgo l n s) = (told_after before l).handed ≤ n
Breaks QueuedTwice starts before (Queue c w lifo) = 0 < queued w (sema_entries before)
Breaks LeftTwice starts before (Leave c w s) =
    0 < left w (sema_entries before) + withdrawn w (sema_entries before)
Breaks LeftTwice starts before (Withdraw c w) =
    0 < left w (sema_entries before) + withdrawn w (sema_entries before)
Breaks NoRelease starts before (Leave c w s) = Owes s c 1 (sema_entries before) → ⊥
Breaks rule starts before entry = ⊥

-- the order in which rules are told
abbrev pub rank : Rule → ℕ
rank NoUnit = 0
rank NotFirst = 1
rank NotQueued = 2
rank GrantedBefore = 3
rank PassedBefore = 4
rank GoneBefore = 5
rank NotHandedOut = 6
rank QueuedTwice = 7
rank LeftTwice = 8
rank NoRelease = 9

-- it breaks none
abbrev pub BreaksNone : List ℕ → List Entry → Entry → Type 0
BreaksNone starts before entry = (rule : Rule) → Breaks rule starts before entry → ⊥

-- it breaks this one, and none that is told before it
pub record BreaksFirst (starts : List ℕ) (before : List Entry) (entry : Entry) (rule : Rule) : Type 0 where
  pub broken : Breaks rule starts before entry
  pub first : (other : Rule) → rank other < rank rule → Breaks other starts before entry → ⊥

-- one more entry keeps a lawful journal lawful exactly where it breaks none of the rules
abbrev pub TheRules : Type 0
TheRules =
    (starts : List ℕ) (before : List Entry) (entry : Entry) → IsLawfulJournal starts before
    → IsLawfulJournal starts (before ++ (entry ∷ [])) ↔ BreaksNone starts before entry

-- the journal's entry at this line is the first that no lawful journal can have there, and breaks this rule
-- first
pub record IsUnlawfulAt (j : Journal) (line : ℕ) (rule : Rule) : Type 0 where
  pub before : List Entry
  pub entry : Entry
  pub after : List Entry
  pub whole : entries_of j.entries ≡ before ++ (entry ∷ after)
  pub place : line ≡ j.heads + length before + 1
  pub lawful : IsLawfulJournal j.starts before
  pub breaks : BreaksFirst j.starts before entry rule

-- what is said of a journal
abbrev pub IsVerdictOf : Journal → Verdict → Type 0
IsVerdictOf j Lawful = IsLawfulJournal j.starts (entries_of j.entries)
IsVerdictOf j (Unlawful line rule) =
    IsUnlawfulAt j line rule × (IsLawfulJournal j.starts (entries_of j.entries) → ⊥)
