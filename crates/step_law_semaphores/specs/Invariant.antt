-- The invariant of the rows: what each row keeps, and from which the lawful world follows.
use Rattle.std.specs.Prelude.{◌≡◌, ℕ, zero, suc, ◌+◌, ◌-◌, ◌<◌, ◌≤◌, Some, List, [], ◌∷◌, length}
use Rattle.waiters.specs.declared.wait.WaitId.{WaitId}
use Rattle.step_table.specs.declared.entry.Entry.{Entry}
use Rattle.step_table.specs.declared.place.AcquireRow.TheVariants.{A7, Parked, A10, A11}
use Rattle.step_table.specs.declared.place.ParkedRow.TheVariants.{D3}
use Rattle.step_table.specs.declared.place.ReleaseRow.TheVariants.{R2, R3, R4, R5, R6, R7, R8, R9, R10}
use Rattle.step_table.specs.declared.place.ManyRow.TheVariants.{M2, M3, M4, M5, M6, M7}
use Rattle.step_table.specs.declared.place.Place.{Place}
use Rattle.step_table.specs.declared.place.Place.TheVariants.{Acquiring, Releasing, ReleasingMany}
use Rattle.step_table.specs.World.{Layout, SeatState, SemaWorld, wait_of}
use Rattle.step_table.specs.Journal.{plain, plain_start, replay, Follows, Owes, queued, left, withdrawn, HasLeft}
use Rattle.step_table.specs.Journal.{HasItsUnit}
use Rattle.step_table.specs.Counting.{on, same, total, wait, times, counter_at, IsWithin}
use Rattle.step_law_semaphores.specs.Lawful.{holds, raises, waits_of, IsGrantOf, added, withdrawals}

-- a lock word counts the seats that hold the lock, of which there is at most one
abbrev pub LocksOwned : Layout → SemaWorld → Type 0
LocksOwned m s = (r : ℕ)
    → (s.words.locks r ≡ total m.seats (λ k. holds m.root r (s.seats k).place)) × (s.words.locks r ≤ 1)

-- a waiter word counts the root's waits, and the seats that have raised it
abbrev pub WaitersRaised : Layout → SemaWorld → Type 0
WaitersRaised m s =
    (r : ℕ) → s.words.waiters r
    ≡ waits_of m r s.words + total m.seats (λ k. raises m.root r (s.seats k).place)

-- 1 where the seat is committed on c
abbrev pub commits : ℕ → Place → ℕ
commits c (Acquiring a A7) = on a.counter c 1
commits c _ = 0

-- what flies for c, less the units for which a release has found no wait
abbrev pub helps_at : ℕ → Place → List WaitId → ℕ → ℕ
helps_at c (Acquiring a (Parked turn row)) hand (suc zero) = on a.counter c 1
helps_at c (Acquiring a A10) hand grant = on a.counter c 1
helps_at c (Acquiring a (A11 left)) hand grant = on a.counter c 1
helps_at c (Releasing r R2) hand grant = on r.counter c 1
helps_at c (Releasing r R3) hand grant = on r.counter c 1
helps_at c (Releasing r R4) hand grant = on r.counter c 1
helps_at c (Releasing r R5) hand grant = on r.counter c 1
helps_at c (Releasing r R6) (w ∷ hand) grant = on r.counter c 1
helps_at c (Releasing r R7) hand grant = on r.counter c 1
helps_at c (Releasing r (R8 left)) hand grant = on r.counter c 1
helps_at c (Releasing r R10) hand grant = on r.counter c 1
helps_at c (ReleasingMany r M2) hand grant = on r.counter c r.units
helps_at c (ReleasingMany r M3) hand grant = on r.counter c r.units
helps_at c (ReleasingMany r M4) hand grant = on r.counter c r.units
helps_at c (ReleasingMany r M5) hand grant = on r.counter c r.units
helps_at c (ReleasingMany r M6) hand grant = on r.counter c (length hand)
helps_at c (ReleasingMany r M7) hand grant = on r.counter c (length hand)
helps_at c _ hand grant = 0

abbrev pub helps : ℕ → SeatState → ℕ → ℕ
helps c seat grant = helps_at c seat.place seat.hand grant

-- where a wait is queued on c or a seat is committed there, its number is at most what helps
abbrev pub UnitsHelp : Layout → SemaWorld → Type 0
UnitsHelp m s =
    (c : ℕ) → 0 < length (s.words.lists c) + total m.seats (λ k. commits c (s.seats k).place)
    → s.words.numbers c ≤ total m.seats (λ k. helps c (s.seats k) (s.words.grants k))

-- how often the seat has the wait in hand, taken out of the list of c
abbrev pub hands_at : ℕ → WaitId → ℕ → List WaitId → ℕ
hands_at c w d [] = 0
hands_at c w d (x ∷ l) = on d c (times w (x ∷ l))

abbrev pub hands : ℕ → WaitId → SeatState → ℕ
hands c w seat = hands_at c w (counter_at seat.place) seat.hand

-- 1 where the seat k is parked on c with the wait w and wasn't granted
abbrev pub awaits : ℕ → WaitId → ℕ → Place → ℕ → ℕ
awaits c w k (Acquiring a (Parked turn row)) zero = on a.counter c (same w (wait k turn))
awaits c w k _ grant = 0

-- a wait stands in lists and hands as often as a parked seat awaits it
abbrev pub WaitsPlaced : Layout → SemaWorld → Type 0
WaitsPlaced m s =
    (c : ℕ) (w : WaitId)
    → times w (s.words.lists c) + total m.seats (λ k. hands c w (s.seats k))
    ≡ total m.seats (λ k. awaits c w k (s.seats k).place (s.words.grants k))

-- 1 where the seat is parked and wasn't granted
abbrev pub asleep : Place → ℕ → ℕ
asleep (Acquiring a (Parked turn row)) zero = 1
asleep _ grant = 0

-- lists and hands hold as many waits as there are sleepers
abbrev pub SleepersCounted : Layout → SemaWorld → Type 0
SleepersCounted m s =
    total m.counters (λ c. length (s.words.lists c)) + total m.seats (λ k. length (s.seats k).hand)
    ≡ total m.seats (λ k. asleep (s.seats k).place (s.words.grants k))

-- how many waits the seat, which has so many in hand, may still take out for its release
abbrev pub owing : Place → ℕ → ℕ
owing (Releasing r R2) in_hand = 1
owing (Releasing r R3) in_hand = 1
owing (Releasing r R4) in_hand = 1
owing (Releasing r R5) in_hand = 1
owing (ReleasingMany r M2) in_hand = r.units
owing (ReleasingMany r M3) in_hand = r.units
owing (ReleasingMany r M4) in_hand = r.units
owing (ReleasingMany r M5) in_hand = r.units - in_hand
owing _ in_hand = 0

-- there are few turns: each queued wait stands in a list, has left for a unit that was added, or was withdrawn
abbrev pub FewTurns : Layout → SemaWorld → Type 0
FewTurns m s =
    total m.seats (λ k. (s.seats k).turn) + total m.seats
    (λ k. owing (s.seats k).place (length (s.seats k).hand))
    ≤ added s.journal + withdrawals s.journal + total m.counters (λ c. length (s.words.lists c))

-- how many waits a seat has in hand
abbrev pub HandFits : Place → ℕ → Type 0
HandFits (Releasing r R6) n = n ≤ 1
HandFits (Releasing r R7) n = n ≡ 1
HandFits (Releasing r (R8 left)) n = n ≡ 1
HandFits (Releasing r R9) n = n ≡ 1
HandFits (Releasing r R10) n = n ≡ 1
HandFits (ReleasingMany r M5) n = n < r.units
HandFits (ReleasingMany r M6) n = n ≤ r.units
HandFits (ReleasingMany r M7) n = 0 < n
HandFits _ n = n ≡ 0

-- what is known of one seat and its grant word
pub record IsSeat (counters : ℕ) (seat : SeatState) (grant : ℕ) : Type 0 where
  pub within : IsWithin counters seat.place
  pub fits : HandFits seat.place (length seat.hand)
  pub granted : IsGrantOf seat.place grant

-- each seat is known, and its grant word
abbrev pub SeatsKnown : Layout → SemaWorld → Type 0
SeatsKnown m s = (k : ℕ) → IsSeat m.counters (s.seats k) (s.words.grants k)

-- the seat k, where it is about to take out a wait, has one to take; where it is its own, that one
abbrev pub Finds : ℕ → (ℕ → List WaitId) → Place → Type 0
Finds k lists (Releasing r R5) = 0 < length (lists r.counter)
Finds k lists (ReleasingMany r M5) = 0 < length (lists r.counter)
Finds k lists (Acquiring a (Parked turn D3)) = wait_of k (lists a.counter) ≡ Some (wait k turn)
Finds k lists _ = Unit {0}

-- each wait in the hand has left c, and no unit was taken for it since
abbrev pub AllLeft : ℕ → List WaitId → List Entry → Type 0
AllLeft c [] journal = Unit {0}
AllLeft c (w ∷ hand) journal = HasLeft c w journal × AllLeft c hand journal

abbrev pub AllHaveUnits : ℕ → List WaitId → List Entry → Type 0
AllHaveUnits c [] journal = Unit {0}
AllHaveUnits c (w ∷ hand) journal = HasItsUnit c w journal × AllHaveUnits c hand journal

-- what the journal says of the call of the seat k
abbrev pub Story : ℕ → Place → List WaitId → ℕ → List Entry → Type 0
Story k (Releasing r R2) hand grant journal = Owes k r.counter 1 journal
Story k (Releasing r R3) hand grant journal = Owes k r.counter 1 journal
Story k (Releasing r R4) hand grant journal = Owes k r.counter 1 journal
Story k (Releasing r R5) hand grant journal = Owes k r.counter 1 journal
Story k (Releasing r R6) hand grant journal = AllLeft r.counter hand journal
Story k (Releasing r R7) hand grant journal = AllLeft r.counter hand journal
Story k (Releasing r (R8 left)) hand grant journal = AllLeft r.counter hand journal
Story k (Releasing r R9) hand grant journal = AllHaveUnits r.counter hand journal
Story k (Releasing r R10) hand grant journal = AllLeft r.counter hand journal
Story k (ReleasingMany r M2) hand grant journal = Owes k r.counter r.units journal
Story k (ReleasingMany r M3) hand grant journal = Owes k r.counter r.units journal
Story k (ReleasingMany r M4) hand grant journal = Owes k r.counter r.units journal
Story k (ReleasingMany r M5) hand grant journal =
    Owes k r.counter (r.units - length hand) journal × AllLeft r.counter hand journal
Story k (ReleasingMany r M6) hand grant journal = AllLeft r.counter hand journal
Story k (ReleasingMany r M7) hand grant journal = AllLeft r.counter hand journal
Story k (Acquiring a (Parked turn row)) hand (suc zero) journal = HasLeft a.counter (wait k turn) journal
Story k (Acquiring a (Parked turn row)) hand (suc (suc grant)) journal = HasItsUnit a.counter (wait k turn) journal
Story k _ hand grant journal = Unit {0}

abbrev pub StoriesTold : Layout → SemaWorld → Type 0
StoriesTold m s =
    (k : ℕ) → k < m.seats → Story k (s.seats k).place (s.seats k).hand (s.words.grants k) s.journal

-- a wait is queued as often as it has left, was withdrawn and stands in a list, and at most once
abbrev pub QueuedOnce : Layout → SemaWorld → Type 0
QueuedOnce m s =
    (w : WaitId)
    → (left w s.journal + withdrawn w s.journal + total m.counters (λ c. times w (s.words.lists c))
    ≡ queued w s.journal)
    × (queued w s.journal ≤ 1)

-- later turns were not queued
abbrev pub TurnsAreNew : SemaWorld → Type 0
TurnsAreNew s = (k turn : ℕ) → (s.seats k).turn ≤ turn → queued (wait k turn) s.journal ≡ 0

-- the invariant
pub record IsInvariant (m : Layout) (s : SemaWorld) : Type 0 where
  pub locks : LocksOwned m s
  pub waiters : WaitersRaised m s
  pub units : UnitsHelp m s
  pub placed : WaitsPlaced m s
  pub sleepers : SleepersCounted m s
  pub turns : FewTurns m s
  pub seats : SeatsKnown m s
  pub finds : (k : ℕ) → k < m.seats → Finds k s.words.lists (s.seats k).place
  pub replays : plain s.words ≡ replay (plain_start m.starts) s.journal
  pub follows : Follows (plain_start m.starts) s.journal
  pub once : QueuedOnce m s
  pub turns_new : TurnsAreNew s
  pub stories : StoriesTold m s
