-- What the calls promise that go their whole way: sleep, acquire, release.
use Rattle.std.specs.Prelude.{◌≡◌, ◌⊎◌, Bool, ℕ, zero, suc, ◌+◌, List, [], ◌∷◌, ◌++◌}
use Rattle.step_table.specs.declared.entry.Entry.{Entry}
use Rattle.step_table.specs.declared.entry.Entry.TheVariants.{Take, Queue}
use Rattle.step_table.specs.declared.place.Acquire.{Acquire}
use Rattle.step_table.specs.declared.place.AcquireRow.TheVariants.{A1, A3, A10, Parked}
use Rattle.step_table.specs.declared.place.ParkedRow.TheVariants.{P}
use Rattle.step_table.specs.declared.place.Place.{Place}
use Rattle.step_table.specs.declared.place.Place.TheVariants.{Rest, Acquiring}
use Rattle.step_table.specs.Journal.{HasItsUnit}
use Rattle.step_table.specs.Counting.{wait}
use Rattle.step_law_semaphores.specs.SemaPath.{SemaStride}
use Rattle.sema_table.specs.declared.answers.Posted.TheVariants.{Done, Owes}
use Rattle.sema_table.specs.declared.answers.Polled.{Polled}
use Rattle.sema_table.specs.declared.answers.Polled.TheVariants as polled
use Rattle.sema_table.specs.declared.answers.Roused.{Roused}
use Rattle.sema_table.specs.declared.answers.Roused.TheVariants.{Woken, Handed}
use Rattle.sema_table.specs.declared.answers.Tried.{Tried}
use Rattle.sema_table.specs.declared.answers.Tried.TheVariants as tried
use Rattle.sema_table.specs.declared.answers.Wake.{Wake}
use Rattle.sema_table.specs.declared.answers.Wake.TheVariants.{Nobody}
use Rattle.sema_table.specs.Seats.{SeatModel}
use Rattle.sema_table.specs.Calls.{RunsRows, IsAt, ComesTo, plain_seen}
use Rattle.sema_table.specs.Tries.{acquiring, IsPosted}
use Rattle.sema_table.specs.Waking.{acquire_of, OnlyLooks, RunsAndSleeps, CallsGranted, IsWakened}

-- the seat was woken by a grant of 1, and has yet to try; or it was handed a unit by a grant of 2, which was
-- taken for it after its wait had left
abbrev pub IsRoused : SeatModel → Roused → Type 0
IsRoused s (Woken t) =
    (t ≡ record s { sight = t.sight; strides = t.strides })
    × ((a : Acquire) × (turn : ℕ) × IsAt s (Acquiring a (Parked turn P)) × ComesTo s (Acquiring a A10) t
    × ((looked : List SemaStride) × CallsGranted s (Acquiring a (Parked turn P)) t looked 1))
IsRoused s (Handed t) =
    (t ≡ record s { taken = s.taken + 1; sight = t.sight; strides = t.strides }) × ComesTo s Rest t
    × ((a : Acquire) × (turn : ℕ) × IsAt s (Acquiring a (Parked turn P))
    × ((looked : List SemaStride) × CallsGranted s (Acquiring a (Parked turn P)) t looked 2)
    × HasItsUnit a.counter (wait s.number turn) t.sight.seen)

-- the same of a sleep that ends with a time: it looked so until then, and found nothing
abbrev pub SleepsInTime : SeatModel → Polled → Type 0
SleepsInTime s (polled.Still t) = OnlyLooks s t
SleepsInTime s (polled.Woken t) = IsRoused s (Woken t)
SleepsInTime s (polled.Handed t) = IsRoused s (Handed t)

-- a unit was added, and nobody waited at the root; or somebody did, and the release went on to wake
abbrev pub IsReleased : SeatModel → ℕ → Bool → SeatModel → Wake → Type 0
IsReleased s c handoff t wake =
    (IsPosted s c (Done t) × (wake ≡ Nobody))
    ⊎ ((u : SeatModel) × IsPosted s c (Owes u) × IsWakened u handoff t wake)

-- the queueing of so many waits of the seat i by one acquire, one after the other, the first of which has
-- this turn
abbrev pub queued : ℕ → Acquire → ℕ → ℕ → List Entry
queued i a turn zero = []
queued i a turn (suc n) = Queue a.counter (wait i turn) a.lifo ∷ queued i a (turn + 1) n

-- the seat took the unit itself, after it had queued so many waits; or the unit was taken for the last of
-- them, after that had left
abbrev pub TakesUnit : SeatModel → Place → Acquire → ℕ → SeatModel → Type 0
TakesUnit s from a n t =
    let turn = s.sight.stands.turn in
    RunsAndSleeps s from t (queued s.number a turn n ++ Take a.counter s.number ∷ [])
    ⊎ (RunsAndSleeps s from t (queued s.number a turn n)
    × ((last : ℕ) × (last + 1 ≡ turn + n) × HasItsUnit a.counter (wait s.number last) t.sight.seen))

-- rows ran from this place on, by which the seat came by one unit and to rest
abbrev pub TakesFrom : SeatModel → Place → Acquire → SeatModel → Type 0
TakesFrom s from a t =
    (t ≡ record s { taken = s.taken + 1; sight = t.sight; strides = t.strides })
    × ((n : ℕ) × (t.sight.stands ≡ record s.sight.stands { place = Rest; turn = s.sight.stands.turn + n })
    × TakesUnit s from a n t)

-- the seat is parked, and its wait is the last that it queued
abbrev pub ParksLast : SeatModel → Acquire → ℕ → Type 0
ParksLast s a turn =
    s.sight.stands ≡ record { place = Acquiring a (Parked turn P); turn = turn + 1; hand = s.sight.stands.hand }

abbrev pub HasParked : SeatModel → Type 0
HasParked s = (a : Acquire) × (turn : ℕ) × ParksLast s a turn

-- what became of the parked seat
abbrev pub TakesAfter : SeatModel → SeatModel → Type 0
TakesAfter s t = (a : Acquire) (turn : ℕ) → ParksLast s a turn → TakesFrom s (Acquiring a (Parked turn P)) a t

-- tries ran, and the last took a unit
abbrev pub TakesAtOnce : SeatModel → ℕ → SeatModel → Type 0
TakesAtOnce s c t =
    (t ≡ record s { taken = s.taken + 1; sight = t.sight; strides = t.strides }) × ComesTo s Rest t
    × RunsRows s (acquiring c A1) t (Take c s.number ∷ [])

-- tries ran, and the last found 0
abbrev pub FindsNone : SeatModel → ℕ → SeatModel → Type 0
FindsNone s c t =
    (t ≡ record s { sight = t.sight; strides = t.strides }) × ComesTo s (acquiring c A3) t
    × RunsRows s (acquiring c A1) t [] × ((plain_seen t).numbers c ≡ 0)

-- tries that were lost, or none
abbrev pub TriesOn : SeatModel → ℕ → SeatModel → Type 0
TriesOn s c t =
    (t ≡ s)
    ⊎ ((t ≡ record s { sight = t.sight; strides = t.strides }) × ComesTo s (acquiring c A1) t
    × RunsRows s (acquiring c A1) t [])

-- at most one try, which took a unit, found none, or was lost
abbrev pub TriesAtSight : SeatModel → ℕ → Tried → SeatModel → Type 0
TriesAtSight s c tried.Taken t = TakesAtOnce s c t
TriesAtSight s c tried.Zero t = FindsNone s c t
TriesAtSight s c tried.Lost t = TriesOn s c t

-- the seat has come by one unit of the counter: at once, or from the lock on, after its tries had found none
abbrev pub IsAcquired : SeatModel → ℕ → Bool → SeatModel → Type 0
IsAcquired s c lifo t =
    TakesAtOnce s c t
    ⊎ ((u : SeatModel) × FindsNone s c u
    × TakesFrom u (Acquiring (acquire_of c lifo) A3) (acquire_of c lifo) t)
