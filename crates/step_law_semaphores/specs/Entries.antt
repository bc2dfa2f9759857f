-- Who told an entry: whose each entry of the journal is, and what it names.
use Rattle.std.specs.Prelude.{◌≡◌, ◌⊎◌, ℕ, ◌<◌, List, [], ◌∷◌, ◌++◌}
use Rattle.waiters.specs.declared.wait.WaitId.{WaitId}
use Rattle.step_table.specs.declared.entry.Entry.{Entry}
use Rattle.step_table.specs.declared.entry.Entry.TheVariants.{Add, AddMany, Take, Queue, Leave, Withdraw}
use Rattle.step_table.specs.declared.place.AcquireRow.TheVariants.{Parked}
use Rattle.step_table.specs.declared.place.ReleaseRow.TheVariants.{R8}
use Rattle.step_table.specs.declared.place.Place.{Place}
use Rattle.step_table.specs.declared.place.Place.TheVariants.{Acquiring, Releasing, ReleasingMany}
use Rattle.step_table.specs.World.{Layout, SeatState, SemaWorld}
use Rattle.step_table.specs.Event.{waiter}
use Rattle.step_table.specs.Counting.{wait}

-- the entry is one of semaphores, and the counter and seats that it names are there
abbrev pub IsNamed : Layout → Entry → Type 0
IsNamed m (Add c s) = (c < m.counters) × (s < m.seats)
IsNamed m (AddMany c n s) = (c < m.counters) × (s < m.seats)
IsNamed m (Take c s) = (c < m.counters) × (s < m.seats)
IsNamed m (Queue c w lifo) = (c < m.counters) × (w.seat < m.seats)
IsNamed m (Leave c w s) = (c < m.counters) × (w.seat < m.seats) × (s < m.seats)
IsNamed m (Withdraw c w) = (c < m.counters) × (w.seat < m.seats)
IsNamed m _ = ⊥

-- the entry is one that seat i may tell by its call at this place, with this turn and these waits in hand: on
-- the call's counter and by itself. An acquire takes a unit for itself, and queues its own turn at the end
-- that it asks for, and withdraws the wait with which it is parked; a release adds its units and takes waits out,
-- and at R8 takes a unit for the seat of the first wait in hand
abbrev pub IsOwnAt : ℕ → ℕ → List WaitId → Place → Entry → Type 0
IsOwnAt i turn hand (Acquiring a row) (Take c s) = (c ≡ a.counter) × (s ≡ i)
IsOwnAt i turn hand (Acquiring a row) (Queue c w lifo) = (c ≡ a.counter) × (w ≡ wait i turn) × (lifo ≡ a.lifo)
IsOwnAt i turn hand (Acquiring a (Parked u row)) (Withdraw c w) = (c ≡ a.counter) × (w ≡ wait i u)
IsOwnAt i turn hand (Releasing r row) (Add c s) = (c ≡ r.counter) × (s ≡ i)
IsOwnAt i turn hand (Releasing r row) (Leave c w s) = (c ≡ r.counter) × (s ≡ i)
IsOwnAt i turn hand (Releasing r (R8 left)) (Take c s) = (c ≡ r.counter) × (s ≡ waiter i hand)
IsOwnAt i turn hand (ReleasingMany r row) (AddMany c n s) = (c ≡ r.counter) × (n ≡ r.units) × (s ≡ i)
IsOwnAt i turn hand (ReleasingMany r row) (Leave c w s) = (c ≡ r.counter) × (s ≡ i)
IsOwnAt i turn hand place e = ⊥

abbrev pub IsOwn : ℕ → SeatState → Entry → Type 0
IsOwn i p e = IsOwnAt i p.turn p.hand p.place e

-- from s to t seat i has told nothing, or one entry of its own
abbrev pub TellsOwn : ℕ → SemaWorld → SemaWorld → Type 0
TellsOwn i s t =
    (t.journal ≡ s.journal) ⊎ ((e : Entry) × (t.journal ≡ s.journal ++ e ∷ []) × IsOwn i (s.seats i) e)
