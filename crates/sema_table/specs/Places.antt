-- The places at which a seat is between two calls, and those at which a call goes on by its caller's choice.
use Rattle.std.specs.Prelude.{◌≡◌, ◌⊎◌, ℕ, ◌<◌, ◌≤◌, Bool, true, false, List, if◌then◌else◌}
use Rattle.waiters.specs.declared.wait.WaitId.{WaitId}
use Rattle.step_table.specs.declared.place.AcquireRow.TheVariants.{A1, A3, A4, Parked}
use Rattle.step_table.specs.declared.place.ParkedRow.TheVariants.{P, D2, D3, D5}
use Rattle.step_table.specs.declared.place.ReleaseRow.TheVariants.{R1, R3, R4}
use Rattle.step_table.specs.declared.place.ManyRow.TheVariants.{M1, M3, M4}
use Rattle.step_table.specs.declared.place.Place.{Place}
use Rattle.step_table.specs.declared.place.Place.TheVariants.{Rest, Acquiring, Releasing, ReleasingMany}
use Rattle.step_table.specs.World.{stands_in}

-- a seat that may begin a call: at rest, or after a try that took nothing
abbrev pub is_free : Place → Bool
is_free Rest = true
is_free (Acquiring a A1) = true
is_free (Acquiring a A3) = true
is_free _ = false

-- the first row of a call on a counter below n; a release of many adds 1 to 256 units
abbrev pub IsFirst : ℕ → Place → Type 0
IsFirst n (Acquiring a A1) = a.counter < n
IsFirst n (Acquiring a A3) = a.counter < n
IsFirst n (Releasing r R1) = r.counter < n
IsFirst n (ReleasingMany r M1) = (r.counter < n) × (1 ≤ r.units) × (r.units ≤ 256)
IsFirst n _ = ⊥

-- a release that goes to the lock chooses whether to hand its unit over; a parked seat may give up, and once it
-- has the lock sleep on after all
abbrev pub Decides : Place → Place → Type 0
Decides (Releasing r R3) (Releasing q R3) = r.counter ≡ q.counter
Decides (Acquiring a (Parked turn P)) (Acquiring b (Parked t D2)) = (a ≡ b) × (turn ≡ t)
Decides (Acquiring a (Parked turn D3)) (Acquiring b (Parked t D5)) = (a ≡ b) × (turn ≡ t)
Decides _ _ = ⊥

-- a seat of a table with n counters may run the row at `to`: it stands there, or comes there by its caller's
-- choice
abbrev pub Begins : ℕ → Place → Place → Type 0
Begins n from to = (from ≡ to) ⊎ (((is_free from ≡ true) × IsFirst n to) ⊎ Decides from to)

-- the row takes a lock
abbrev pub takes_lock : Place → Bool
takes_lock (Acquiring a A3) = true
takes_lock (Acquiring a (Parked turn D2)) = true
takes_lock (Releasing r R3) = true
takes_lock (ReleasingMany r M3) = true
takes_lock _ = false

-- where it leads the seat k, which finds these lists: one that gives up finds its wait queued, or not
abbrev pub locked : ℕ → (ℕ → List WaitId) → Place → Place
locked k lists (Acquiring a A3) = Acquiring a A4
locked k lists (Acquiring a (Parked turn D2)) =
    if stands_in k (lists a.counter) then Acquiring a (Parked turn D3) else Acquiring a (Parked turn D5)
locked k lists (Releasing r R3) = Releasing r R4
locked k lists (ReleasingMany r M3) = ReleasingMany r M4
locked k lists place = place
