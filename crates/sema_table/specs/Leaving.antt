-- What the call promises by which a seat whose wait is queued gives up.
use Rattle.std.specs.Prelude.{◌≡◌, ℕ, ◌-◌, ◌<◌, [], ◌∷◌}
use Rattle.step_table.specs.declared.entry.Entry.TheVariants.{Withdraw}
use Rattle.step_table.specs.declared.place.Acquire.{Acquire}
use Rattle.step_table.specs.declared.place.AcquireRow.TheVariants.{Parked}
use Rattle.step_table.specs.declared.place.ParkedRow.TheVariants.{P, D2, D3, D5}
use Rattle.step_table.specs.declared.place.Place.TheVariants.{Rest, Acquiring}
use Rattle.step_table.specs.Counting.{wait}
use Rattle.sema_table.specs.declared.answers.GaveUp.{GaveUp}
use Rattle.sema_table.specs.declared.answers.GaveUp.TheVariants.{Left, Coming, Woken, Handed, LimitReached}
use Rattle.sema_table.specs.declared.answers.Polled.TheVariants as polled
use Rattle.sema_table.specs.Seats.{SeatModel}
use Rattle.sema_table.specs.Calls.{RunsRows, IsAt, ComesTo}
use Rattle.sema_table.specs.Tries.{FindsHeld}
use Rattle.sema_table.specs.Waking.{IsPolled}

-- the rows from the lock on of a seat that was parked. It told that its own wait was withdrawn, has one unit
-- less to spend, and rests; or it told nothing, and is parked as it was, so it looked for its wait and found
-- that it wasn't queued. Nothing else comes of these rows
abbrev pub LeavesAtLock : SeatModel → GaveUp → Type 0
LeavesAtLock s (Left t) =
    (0 < s.left) × (t ≡ record s { left = s.left - 1; sight = t.sight; strides = t.strides }) × ComesTo s Rest t
    × ((a : Acquire) × (turn : ℕ) × IsAt s (Acquiring a (Parked turn P))
    × RunsRows s (Acquiring a (Parked turn D2)) t (Withdraw a.counter (wait s.number turn) ∷ []))
LeavesAtLock s (Coming t) =
    (t ≡ record s { sight = t.sight; strides = t.strides }) × (t.sight.stands ≡ s.sight.stands)
    × ((a : Acquire) × (turn : ℕ) × IsAt s (Acquiring a (Parked turn P))
    × RunsRows s (Acquiring a (Parked turn D2)) t [])
LeavesAtLock s _ = ⊥

-- the parked seat looked at its grant word, as in a poll. Where it found a grant it took that, and else it went
-- to the lock, unless it had no unit left to spend
abbrev pub Leaves : SeatModel → GaveUp → Type 0
Leaves s (Left t) = (u : SeatModel) × IsPolled s (polled.Still u) × LeavesAtLock u (Left t)
Leaves s (Coming t) = (u : SeatModel) × IsPolled s (polled.Still u) × LeavesAtLock u (Coming t)
Leaves s (Woken t) = IsPolled s (polled.Woken t)
Leaves s (Handed t) = IsPolled s (polled.Handed t)
Leaves s (LimitReached t) = IsPolled s (polled.Still t) × (s.left ≡ 0)

-- no answer of a seat that has withdrawn its wait
abbrev pub HasStayed : GaveUp → Type 0
HasStayed (Left t) = ⊥
HasStayed _ = Unit {0}

-- at the lock, where its wait is queued
abbrev pub GoesToLeave : SeatModel → SeatModel → Type 0
GoesToLeave s l =
    (l ≡ record s { sight = l.sight; strides = l.strides })
    × ((a : Acquire) × (turn : ℕ) × IsAt s (Acquiring a (Parked turn P)) × ComesTo s (Acquiring a (Parked turn D3)) l
    × RunsRows s (Acquiring a (Parked turn D2)) l [])

-- the same after a look at its grant word, where nothing was
abbrev pub BeginsToLeave : SeatModel → SeatModel → Type 0
BeginsToLeave s l = (u : SeatModel) × IsPolled s (polled.Still u) × (0 < u.left) × GoesToLeave u l

-- from there: it told that its own wait was withdrawn, has one unit less to spend, and rests
abbrev pub EndsLeaving : SeatModel → SeatModel → Type 0
EndsLeaving l t =
    (0 < l.left) × (t ≡ record l { left = l.left - 1; sight = t.sight; strides = t.strides }) × ComesTo l Rest t
    × ((a : Acquire) × (turn : ℕ) × IsAt l (Acquiring a (Parked turn D3))
    × RunsRows l (Acquiring a (Parked turn D3)) t (Withdraw a.counter (wait l.number turn) ∷ []))

-- or it told nothing, and is parked as it was
abbrev pub StaysAsleep : SeatModel → SeatModel → Type 0
StaysAsleep l t =
    (t ≡ record l { sight = t.sight; strides = t.strides })
    × ((a : Acquire) × (turn : ℕ) × IsAt l (Acquiring a (Parked turn D3)) × ComesTo l (Acquiring a (Parked turn P)) t
    × RunsRows l (Acquiring a (Parked turn D5)) t [])

-- nothing but looks: at the grant word, where nothing was, and at the lock, which was held
abbrev pub StillParked : SeatModel → SeatModel → Type 0
StillParked s t =
    (u : SeatModel) × IsPolled s (polled.Still u)
    × ((a : Acquire) × (turn : ℕ) × IsAt s (Acquiring a (Parked turn P)) × FindsHeld u a.counter t)
