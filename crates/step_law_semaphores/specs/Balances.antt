-- What was added and what was taken, by seats and by counters.
use Rattle.std.specs.Prelude.{◌≡◌, ℕ, ◌+◌, List, [], ◌∷◌}
use Rattle.step_table.specs.declared.entry.Entry.{Entry}
use Rattle.step_table.specs.declared.entry.Entry.TheVariants.{Add, AddMany, Take, Withdraw}
use Rattle.step_table.specs.World.{Layout, SemaWorld}
use Rattle.step_table.specs.Journal.{takes}
use Rattle.step_table.specs.Counting.{on, total}
use Rattle.step_law_semaphores.specs.Lawful.{added, withdrawals}

-- how many units the seat k has added
abbrev pub added_by : ℕ → List Entry → ℕ
added_by k [] = 0
added_by k (Add c s ∷ es) = on k s 1 + added_by k es
added_by k (AddMany c n s ∷ es) = on k s n + added_by k es
added_by k (e ∷ es) = added_by k es

-- how many units were added to the counter c
abbrev pub added_on : ℕ → List Entry → ℕ
added_on c [] = 0
added_on c (Add d s ∷ es) = on c d 1 + added_on c es
added_on c (AddMany d n s ∷ es) = on c d n + added_on c es
added_on c (e ∷ es) = added_on c es

-- how many units were taken from the counter c
abbrev pub taken_on : ℕ → List Entry → ℕ
taken_on c [] = 0
taken_on c (Take d s ∷ es) = on c d 1 + taken_on c es
taken_on c (e ∷ es) = taken_on c es

-- how many units were taken in all
abbrev pub taken : List Entry → ℕ
taken [] = 0
taken (Take c s ∷ es) = 1 + taken es
taken (e ∷ es) = taken es

-- how many waits the seat k has withdrawn
abbrev pub withdrawn_by : ℕ → List Entry → ℕ
withdrawn_by k [] = 0
withdrawn_by k (Withdraw c w ∷ es) = on k w.seat 1 + withdrawn_by k es
withdrawn_by k (e ∷ es) = withdrawn_by k es

-- what was added is what the seats have added
abbrev pub AddedBySeats : Layout → SemaWorld → Type 0
AddedBySeats m s = added s.journal ≡ total m.seats (λ k. added_by k s.journal)

-- what was withdrawn, the seats have withdrawn
abbrev pub WithdrawnBySeats : Layout → SemaWorld → Type 0
WithdrawnBySeats m s = withdrawals s.journal ≡ total m.seats (λ k. withdrawn_by k s.journal)

-- what was taken was taken for the seats
abbrev pub TakenForSeats : Layout → SemaWorld → Type 0
TakenForSeats m s = taken s.journal ≡ total m.seats (λ k. takes k s.journal)

-- a counter's number and what was taken from it are its start and what was added to it
abbrev pub Balanced : Layout → SemaWorld → Type 0
Balanced m s = (c : ℕ) → s.words.numbers c + taken_on c s.journal ≡ m.starts c + added_on c s.journal

-- the same of all counters together
abbrev pub BalancedInAll : Layout → SemaWorld → Type 0
BalancedInAll m s =
    total m.counters s.words.numbers + taken s.journal ≡ total m.counters m.starts + added s.journal
