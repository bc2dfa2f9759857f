-- For whom units were taken: each unit is come by at once, or served to a seat that is parked.
use Rattle.std.specs.Prelude.{◌≡◌, ℕ, ◌+◌, ◌<◌, ◌≤◌, Bool, List, [], ◌∷◌, ◌++◌}
use Rattle.waiters.specs.declared.wait.WaitId.{WaitId}
use Rattle.step_table.specs.declared.entry.Entry.{Entry}
use Rattle.step_table.specs.declared.entry.Entry.TheVariants.{Queue}
use Rattle.step_table.specs.declared.place.Acquire.{Acquire}
use Rattle.step_table.specs.declared.place.AcquireRow.{AcquireRow}
use Rattle.step_table.specs.declared.place.AcquireRow.TheVariants.{A2, A6, A8, A9, Parked, A11, D4}
use Rattle.step_table.specs.declared.place.ReleaseRow.TheVariants.{R9}
use Rattle.step_table.specs.declared.place.Place.{Place}
use Rattle.step_table.specs.declared.place.Place.TheVariants.{Rest, Acquiring, Releasing}
use Rattle.step_table.specs.World.{Layout, SemaWorld}
use Rattle.step_table.specs.Journal.{takes}
use Rattle.step_table.specs.Counting.{on, total, wait}
use Rattle.step_law_semaphores.specs.Lawful.{IsParked}

-- 1 where a seat with these waits in hand is at R9, about to store the grant 2 of a wait of the seat k
abbrev pub carries : ℕ → Place → List WaitId → ℕ
carries k (Releasing r R9) (w ∷ hand) = on k w.seat 1
carries k _ hand = 0

-- in how many hands at R9 a wait of the seat k is the first
abbrev pub carried : Layout → SemaWorld → ℕ → ℕ
carried m s k = total m.seats (λ i. carries k (s.seats i).place (s.seats i).hand)

-- how many units were taken for the seat k that it hasn't come by yet: its grant is 2, or its wait is in a
-- hand at R9
abbrev pub served : Layout → SemaWorld → ℕ → ℕ
served m s k = on (s.words.grants k) 2 1 + carried m s k

-- 1 where a seat that goes from the one place to the other comes by a unit: it won its exchange, or its grant
-- was 2
abbrev pub gains : Place → Place → ℕ
gains (Acquiring a (A2 left)) Rest = 1
gains (Acquiring a (A6 left)) (Acquiring b A8) = 1
gains (Acquiring a (Parked turn row)) Rest = 1
gains (Acquiring a (A11 left)) Rest = 1
gains _ _ = 0

-- by a step of seat i, the units taken for a seat grow by those newly served to it, and by those that it
-- comes by, if it is seat i
abbrev pub TakesCounted : Layout → ℕ → SemaWorld → SemaWorld → Type 0
TakesCounted m i s t =
    (k : ℕ)
    → takes k t.journal + served m s k
    ≡ takes k s.journal + served m t k + on k i (gains (s.seats i).place (t.seats i).place)

-- at most one unit is served to a seat, and only while it is parked
abbrev pub ServedOnce : Layout → SemaWorld → Type 0
ServedOnce m s =
    (k : ℕ) → k < m.seats → (served m s k ≤ 1) × (0 < served m s k → (c turn : ℕ) × IsParked s k c turn)

-- 1 where a seat has its unit, and only gives back what it took for its look under the lock
abbrev pub keeps : Place → ℕ
keeps (Acquiring a A8) = 1
keeps (Acquiring a A9) = 1
keeps _ = 0

-- 1 where a seat has withdrawn its wait
abbrev pub has_withdrawn : Place → ℕ
has_withdrawn (Acquiring a D4) = 1
has_withdrawn _ = 0

-- 1 where a seat rests
abbrev pub rests : Place → ℕ
rests Rest = 1
rests _ = 0

-- a row of an acquire leads to rest exactly where the seat comes by a unit, has kept one, or has withdrawn its
-- wait: no acquire ends otherwise
abbrev pub EndsWithUnit : ℕ → SemaWorld → SemaWorld → Type 0
EndsWithUnit i s t =
    (a : Acquire) (row : AcquireRow) → (s.seats i).place ≡ Acquiring a row
    → gains (s.seats i).place (t.seats i).place + keeps (s.seats i).place + has_withdrawn (s.seats i).place
    ≡ keeps (t.seats i).place + rests (t.seats i).place

-- how many waits of the seat k were queued
abbrev pub queues : ℕ → List Entry → ℕ
queues k [] = 0
queues k (Queue c w lifo ∷ es) = on k w.seat 1 + queues k es
queues k (e ∷ es) = queues k es

-- a seat's turn is the number of its queued waits
abbrev pub TurnsQueued : SemaWorld → Type 0
TurnsQueued s = (k : ℕ) → (s.seats k).turn ≡ queues k s.journal

-- the last wait that the seat k queued is this one of c, and since then n units were taken for the seat
pub record TakenSince (k c turn n : ℕ) (journal : List Entry) : Type 0 where
  pub lifo : Bool
  pub before : List Entry
  pub after : List Entry
  pub is : journal ≡ before ++ Queue c (wait k turn) lifo ∷ after
  pub last : queues k after ≡ 0
  pub units : takes k after ≡ n

-- since a parked seat queued its wait, the units taken for it are those that are served
abbrev pub TakesServed : Layout → SemaWorld → Type 0
TakesServed m s =
    (k c turn : ℕ) → k < m.seats → IsParked s k c turn → TakenSince k c turn (served m s k) s.journal
