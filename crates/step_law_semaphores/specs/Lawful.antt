-- What is promised of each world, in the words of the subject.
use Rattle.std.specs.Prelude.{◌≡◌, ℕ, zero, suc, ◌+◌, ◌<◌, ◌≤◌, ◌≢◌, ◌⊎◌, List, [], ◌∷◌, length}
use Rattle.waiters.specs.declared.wait.WaitId.{WaitId}
use Rattle.step_table.specs.declared.entry.Entry.{Entry}
use Rattle.step_table.specs.declared.entry.Entry.TheVariants.{Add, AddMany, Withdraw}
use Rattle.step_table.specs.declared.place.Acquire.{Acquire}
use Rattle.step_table.specs.declared.place.AcquireRow.TheVariants.{A4, A5, A6, A7, A8, A9, A10, A11, D4}
use Rattle.step_table.specs.declared.place.AcquireRow.TheVariants.{Parked}
use Rattle.step_table.specs.declared.place.ParkedRow.{ParkedRow}
use Rattle.step_table.specs.declared.place.ParkedRow.TheVariants.{P, D3, D5}
use Rattle.step_table.specs.declared.place.ReleaseRow.TheVariants.{R1, R4, R5, R6, R9}
use Rattle.step_table.specs.declared.place.ManyRow.TheVariants.{M1, M4, M5, M6, M7}
use Rattle.step_table.specs.declared.place.Place.{Place}
use Rattle.step_table.specs.declared.place.Place.TheVariants.{Acquiring, Releasing, ReleasingMany}
use Rattle.step_table.specs.World.{Layout, Words, SemaWorld}
use Rattle.step_table.specs.Journal.{plain, plain_start, replay, IsLawful, HasItsUnit}
use Rattle.step_table.specs.Counting.{on, total, wait, times, granted, IsWithin}

-- 1 where the seat holds the lock of the root r
abbrev pub holds : (ℕ → ℕ) → ℕ → Place → ℕ
holds root r (Acquiring a A4) = on (root a.counter) r 1
holds root r (Acquiring a A5) = on (root a.counter) r 1
holds root r (Acquiring a (A6 left)) = on (root a.counter) r 1
holds root r (Acquiring a A7) = on (root a.counter) r 1
holds root r (Acquiring a A8) = on (root a.counter) r 1
holds root r (Acquiring a A9) = on (root a.counter) r 1
holds root r (Acquiring a (Parked turn D3)) = on (root a.counter) r 1
holds root r (Acquiring a (Parked turn D5)) = on (root a.counter) r 1
holds root r (Acquiring a D4) = on (root a.counter) r 1
holds root r (Releasing q R4) = on (root q.counter) r 1
holds root r (Releasing q R5) = on (root q.counter) r 1
holds root r (Releasing q R6) = on (root q.counter) r 1
holds root r (ReleasingMany q M4) = on (root q.counter) r 1
holds root r (ReleasingMany q M5) = on (root q.counter) r 1
holds root r (ReleasingMany q M6) = on (root q.counter) r 1
holds root r _ = 0

-- 1 where the seat has raised the waiter word of the root r, and neither queued its wait nor lowered the word
abbrev pub raises : (ℕ → ℕ) → ℕ → Place → ℕ
raises root r (Acquiring a A5) = on (root a.counter) r 1
raises root r (Acquiring a (A6 left)) = on (root a.counter) r 1
raises root r (Acquiring a A7) = on (root a.counter) r 1
raises root r (Acquiring a A8) = on (root a.counter) r 1
raises root r _ = 0

-- how many units the seat, which has so many waits in hand, has in flight for c. A release flies from its add
-- to its end or its grant, but no longer once a unit was taken for its waiter; a release of many flies with
-- all its units until it ends or gives the lock back, and then with the waits in its hand; a woken wait flies
-- until it takes a unit or reads 0
abbrev pub flies : ℕ → Place → ℕ → ℕ → ℕ
flies c (Acquiring a (Parked turn row)) in_hand (suc zero) = on a.counter c 1
flies c (Acquiring a A10) in_hand grant = on a.counter c 1
flies c (Acquiring a (A11 left)) in_hand grant = on a.counter c 1
flies c (Releasing r R1) in_hand grant = 0
flies c (Releasing r R9) in_hand grant = 0
flies c (Releasing r row) in_hand grant = on r.counter c 1
flies c (ReleasingMany r M1) in_hand grant = 0
flies c (ReleasingMany r M7) in_hand grant = on r.counter c in_hand
flies c (ReleasingMany r row) in_hand grant = on r.counter c r.units
flies c _ in_hand grant = 0

abbrev pub in_flight : Layout → SemaWorld → ℕ → ℕ
in_flight m s c = total m.seats (λ k. flies c (s.seats k).place (length (s.seats k).hand) (s.words.grants k))

-- how many waits the lists of a root hold
abbrev pub waits_of : Layout → ℕ → Words → ℕ
waits_of m r g = total m.counters (λ c. on (m.root c) r (length (g.lists c)))

-- in how many hands a wait is
abbrev pub in_hand : Layout → SemaWorld → WaitId → ℕ
in_hand m s w = total m.seats (λ k. times w (s.seats k).hand)

-- the seat k is parked on c with its wait of this turn: it sleeps, or is about to give up
abbrev pub IsParked : SemaWorld → ℕ → ℕ → ℕ → Type 0
IsParked s k c turn =
    (a : Acquire) × (a.counter ≡ c) × (row : ParkedRow) × ((s.seats k).place ≡ Acquiring a (Parked turn row))

-- it sleeps: it has not begun to give up, or has found its wait in a hand
abbrev pub Sleeps : SemaWorld → ℕ → ℕ → ℕ → Type 0
Sleeps s k c turn = (a : Acquire) × (a.counter ≡ c) × ((s.seats k).place ≡ Acquiring a (Parked turn P))

-- it has found its wait queued, and is about to take it out
abbrev pub Withdraws : SemaWorld → ℕ → ℕ → ℕ → Type 0
Withdraws s k c turn = (a : Acquire) × (a.counter ≡ c) × ((s.seats k).place ≡ Acquiring a (Parked turn D3))

-- the seat k has read 0 at c under the lock, and is about to queue its wait
abbrev pub IsCommitted : SemaWorld → ℕ → ℕ → Type 0
IsCommitted s k c = (a : Acquire) × (a.counter ≡ c) × ((s.seats k).place ≡ Acquiring a A7)

-- the numbers and lists are those that one lawful journal tells
abbrev pub OneJournal : Layout → SemaWorld → Type 0
OneJournal m s =
    (plain s.words ≡ replay (plain_start m.starts) s.journal) × IsLawful (plain_start m.starts) s.journal

-- a lock word is the number of seats that hold the lock
abbrev pub LocksHeld : Layout → SemaWorld → Type 0
LocksHeld m s = (r : ℕ) → s.words.locks r ≡ total m.seats (λ k. holds m.root r (s.seats k).place)

-- a waiter word is the number of its root's waits, and one more while the lock's holder has raised it
abbrev pub WaitersCounted : Layout → SemaWorld → Type 0
WaitersCounted m s =
    (r : ℕ)
    → (s.words.locks r ≡ 0 → s.words.waiters r ≡ waits_of m r s.words)
    × ((k : ℕ) → k < m.seats → holds m.root r (s.seats k).place ≡ 1
    → s.words.waiters r ≡ waits_of m r s.words + raises m.root r (s.seats k).place)

-- while a wait is queued on c, or a seat is committed there, the number of c is at most the count in flight
abbrev pub NoLostWakeUp : Layout → SemaWorld → Type 0
NoLostWakeUp m s =
    (c : ℕ) → (0 < length (s.words.lists c)) ⊎ ((k : ℕ) × (k < m.seats) × IsCommitted s k c)
    → s.words.numbers c ≤ in_flight m s c

-- a parked wait is in exactly one place: in its counter's list, in a hand, or granted
abbrev pub ParkedOnce : Layout → SemaWorld → Type 0
ParkedOnce m s =
    (k c turn : ℕ) → k < m.seats → IsParked s k c turn
    → (times (wait k turn) (s.words.lists c) + in_hand m s (wait k turn) + granted (s.words.grants k) ≡ 1)
    × ((d : ℕ) → d ≢ c → times (wait k turn) (s.words.lists d) ≡ 0)

-- a wait that its seat is about to take out is queued
abbrev pub WithdrawsQueued : Layout → SemaWorld → Type 0
WithdrawsQueued m s =
    (k c turn : ℕ) → k < m.seats → Withdraws s k c turn → times (wait k turn) (s.words.lists c) ≡ 1

-- the seat's call is a release of c, of one unit or of many
abbrev pub IsReleasing : Place → ℕ → Type 0
IsReleasing (Releasing r row) c = r.counter ≡ c
IsReleasing (ReleasingMany r row) c = r.counter ≡ c
IsReleasing _ c = ⊥

-- each wait in a list is that of a seat that is parked there, and each wait in a hand is in that of a release
-- of the counter on which its seat is parked
abbrev pub EachIsParked : Layout → SemaWorld → Type 0
EachIsParked m s =
    ((c : ℕ) (w : WaitId) → 0 < times w (s.words.lists c) → (w.seat < m.seats) × IsParked s w.seat c w.turn)
    × ((k : ℕ) (w : WaitId) → k < m.seats → 0 < times w (s.seats k).hand
    → (w.seat < m.seats) × (c : ℕ) × IsReleasing (s.seats k).place c × IsParked s w.seat c w.turn)

-- the highest grant that a parked seat may find: one that has found its wait queued finds none
abbrev pub most_granted : ParkedRow → ℕ
most_granted D3 = 0
most_granted row = 2

-- a seat that isn't parked has no grant, and a grant is at most 2
abbrev pub IsGrantOf : Place → ℕ → Type 0
IsGrantOf (Acquiring a (Parked turn row)) grant = grant ≤ most_granted row
IsGrantOf _ grant = grant ≡ 0

-- a grant of 2 has a unit of its own, taken after the wait left
abbrev pub GrantsHeld : Layout → SemaWorld → Type 0
GrantsHeld m s =
    ((k : ℕ) → IsGrantOf (s.seats k).place (s.words.grants k))
    × ((k c turn : ℕ) → k < m.seats → IsParked s k c turn → s.words.grants k ≡ 2
    → HasItsUnit c (wait k turn) s.journal)

-- how many units were added in all
abbrev pub added : List Entry → ℕ
added [] = 0
added (Add c s ∷ es) = 1 + added es
added (AddMany c n s ∷ es) = n + added es
added (e ∷ es) = added es

-- how many waits were withdrawn in all
abbrev pub withdrawals : List Entry → ℕ
withdrawals [] = 0
withdrawals (Withdraw c w ∷ es) = 1 + withdrawals es
withdrawals (e ∷ es) = withdrawals es

-- so no word outgrows its bound
abbrev pub AllBounded : Layout → SemaWorld → Type 0
AllBounded m s =
    ((c : ℕ) → s.words.numbers c ≤ m.starts c + added s.journal)
    × ((r : ℕ) → (s.words.locks r ≤ 1) × (s.words.waiters r ≤ m.seats))
    × ((k : ℕ) → k < m.seats → (s.seats k).turn ≤ added s.journal + withdrawals s.journal + m.seats)

-- each seat is at rest, or its call is on a counter that is there; and a release of many is of 1 to 256 units
abbrev pub CallsWithin : Layout → SemaWorld → Type 0
CallsWithin m s = (k : ℕ) → IsWithin m.counters (s.seats k).place

-- a lawful world
pub record IsLawfulWorld (m : Layout) (s : SemaWorld) : Type 0 where
  pub journal : OneJournal m s
  pub locks : LocksHeld m s
  pub waiters : WaitersCounted m s
  pub units : NoLostWakeUp m s
  pub once : ParkedOnce m s
  pub parked : EachIsParked m s
  pub withdraws : WithdrawsQueued m s
  pub grants : GrantsHeld m s
  pub bounded : AllBounded m s
  pub within : CallsWithin m s
