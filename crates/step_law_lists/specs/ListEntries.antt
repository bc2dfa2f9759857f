-- Who tells the entries of a notify list's journal, and what no entry takes back.
use Rattle.std.specs.Prelude.{◌≡◌, ◌⊎◌, ℕ, ◌<◌, ◌≤◌, List, [], ◌∷◌, ◌++◌}
use Rattle.std.specs.List.{All}
use Rattle.step_table.specs.ListWorld.{Numbers, ListEntry, Took, Granted, Forgone, ListWorld}
use Rattle.step_law_lists.specs.ListLawful.{told, times_granted, times_forgone}

-- the seat that took a ticket, granted some, or left
abbrev pub teller : ListEntry → ℕ
teller (Took s) = s
teller (Granted upto s) = s
teller (Forgone n s) = s

-- each entry is by a seat of the list
abbrev pub EntriesNamed : ℕ → ListWorld → Type 0
EntriesNamed seats s = All (λ e. teller e < seats) s.journal

-- a step of seat i tells nothing, or one entry, which is its own
abbrev pub TellsOwn : ℕ → ListWorld → ListWorld → Type 0
TellsOwn i s t =
    (t.journal ≡ s.journal) ⊎ ((e : ListEntry) × (t.journal ≡ s.journal ++ e ∷ []) × (teller e ≡ i))

-- the numbers beside the words are those that the journal tells
abbrev pub NumbersTold : ListWorld → Type 0
NumbersTold s = s.words.numbers ≡ told s.journal

-- no ticket was taken back from m to n, and none that was passed
pub record NoneTakenBack (m n : Numbers) : Type 0 where
  pub handed : m.handed ≤ n.handed
  pub passed : m.passed ≤ n.passed

-- nor was any since a beginning of the journal
abbrev pub NeverTakenBack : ListWorld → Type 0
NeverTakenBack s =
    (before after : List ListEntry) → s.journal ≡ before ++ after
    → NoneTakenBack (told before) (told s.journal)

-- a ticket that was granted or has gone at a beginning of the journal is so from then on
abbrev pub NeverUndone : ListWorld → Type 0
NeverUndone s =
    (before after : List ListEntry) (n : ℕ) → s.journal ≡ before ++ after
    → (times_granted n before ≤ times_granted n s.journal) × (times_forgone n before ≤ times_forgone n s.journal)
