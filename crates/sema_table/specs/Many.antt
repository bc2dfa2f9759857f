-- What a release of many units promises, in its two parts and whole.
use Rattle.std.specs.Prelude.{◌≡◌, ◌⊎◌, ℕ, ◌+◌, ◌-◌, List, [], ◌∷◌, ◌++◌, length, map}
use Rattle.waiters.specs.declared.wait.WaitId.{WaitId}
use Rattle.step_table.specs.declared.entry.Entry.{Entry}
use Rattle.step_table.specs.declared.entry.Entry.TheVariants.{AddMany, Leave}
use Rattle.step_table.specs.declared.place.ReleaseMany.{ReleaseMany}
use Rattle.step_table.specs.declared.place.ManyRow.TheVariants.{M1, M2, M3, M7}
use Rattle.step_table.specs.declared.place.Place.TheVariants.{Rest, ReleasingMany}
use Rattle.step_table.specs.declared.word.Word.TheVariants.{Grant}
use Rattle.step_table.specs.World.{Layout}
use Rattle.step_table.specs.Path.{runs}
use Rattle.step_law_semaphores.specs.SemaPath.{SemaStride, row_event, word_of_stride}
use Rattle.sema_table.specs.declared.many_seat.PostedMany.{PostedMany}
use Rattle.sema_table.specs.declared.many_seat.PostedMany.TheVariants.{Done, Owes}
use Rattle.sema_table.specs.Setting.{layout}
use Rattle.sema_table.specs.Seats.{SeatModel}
use Rattle.sema_table.specs.Tries.{FindsHeld}
use Rattle.sema_table.specs.Calls.{RunsRows, CallsRows, IsAt, ComesTo}

-- a release of so many units to c
abbrev pub release_of : ℕ → ℕ → ReleaseMany
release_of c units = record { counter = c; units = units }

-- all units were added by one row. Then the waiter word read 0, and the release has ended, or it read more,
-- and the release goes to the lock
abbrev pub IsPostedMany : SeatModel → ReleaseMany → PostedMany → Type 0
IsPostedMany s r (Done t) =
    (t ≡ record s { left = s.left - r.units; sight = t.sight; strides = t.strides }) × ComesTo s Rest t
    × ((n : ℕ)
    × CallsRows s (ReleasingMany r M1) t (AddMany r.counter r.units s.number ∷ [])
    ((ReleasingMany r M1, n) ∷ (ReleasingMany r M2, 0) ∷ []))
IsPostedMany s r (Owes t) =
    (t ≡ record s { left = s.left - r.units; sight = t.sight; strides = t.strides })
    × ComesTo s (ReleasingMany r M3) t
    × ((n waits : ℕ)
    × CallsRows s (ReleasingMany r M1) t (AddMany r.counter r.units s.number ∷ [])
    ((ReleasingMany r M1, n) ∷ (ReleasingMany r M2, waits + 1) ∷ []))

-- what is told as the seat i takes these waits out, one after the other
abbrev pub leaves : ℕ → ReleaseMany → List WaitId → List Entry
leaves i r waits = map (λ w. Leave r.counter w i) waits

-- the stride ran M7 with this wait as the first in hand, and stored 1 in the grant word of the wait's seat
pub record GrantsFirst (m : Layout) (i : ℕ) (r : ReleaseMany) (w : WaitId) (p : SemaStride) : Type 0 where
  pub did : p.deed ≡ runs
  pub row : p.stood.place ≡ ReleasingMany r M7
  pub others : List WaitId
  pub hand_is : p.stood.hand ≡ w ∷ others
  pub word : word_of_stride m i p ≡ Grant w.seat
  pub stored : (row_event m i p).becomes p.read ≡ 1

-- the strides grant these waits, one stride each, in this order
abbrev pub GrantsEach : Layout → ℕ → ReleaseMany → List WaitId → List SemaStride → Type 0
GrantsEach m i r [] [] = Unit {0}
GrantsEach m i r (w ∷ waits) (p ∷ strides) = GrantsFirst m i r w p × GrantsEach m i r waits strides
GrantsEach m i r _ _ = ⊥

-- n waits were taken out, by the seat, and then granted 1 each in the order in which they were taken out, by
-- its last n rows
pub record WakesMany (s : SeatModel) (r : ReleaseMany) (t : SeatModel) (n : ℕ) : Type 0 where
  pub waits : List WaitId
  pub count : length waits ≡ n
  pub call : RunsRows s (ReleasingMany r M3) t (leaves s.number r waits)
  pub before : List SemaStride
  pub grants : List SemaStride
  pub strides_are : call.strides ≡ before ++ grants
  pub granted : GrantsEach (layout s.table.setting) s.number r waits grants

-- the rows of this release of many units from the lock on, by which the seat has come to rest. It took a wait
-- out while one was listed and fewer than its units were in hand: so the rows say
abbrev pub WakesCount : SeatModel → ReleaseMany → SeatModel → ℕ → Type 0
WakesCount s r t n =
    (t ≡ record s { sight = t.sight; strides = t.strides }) × ComesTo s Rest t × WakesMany s r t n

-- the same of the release that the seat is in the middle of
abbrev pub IsWokenMany : SeatModel → SeatModel → ℕ → Type 0
IsWokenMany s t n =
    (r : ReleaseMany) × IsAt s (ReleasingMany r M3)
    × (t ≡ record s { sight = t.sight; strides = t.strides }) × ComesTo s Rest t
    × WakesMany s r t n

-- and these are the seats of the waits that were taken out, in the order in which they left
abbrev pub WakesSeats : SeatModel → ReleaseMany → SeatModel → List ℕ → Type 0
WakesSeats s r t seats =
    (t ≡ record s { sight = t.sight; strides = t.strides }) × ComesTo s Rest t
    × ((woken : WakesMany s r t (length seats)) × (seats ≡ map (λ w. w.seat) woken.waits))

abbrev pub IsWokenSeats : SeatModel → SeatModel → List ℕ → Type 0
IsWokenSeats s t seats =
    (r : ReleaseMany) × IsAt s (ReleasingMany r M3)
    × (t ≡ record s { sight = t.sight; strides = t.strides }) × ComesTo s Rest t
    × ((woken : WakesMany s r t (length seats)) × (seats ≡ map (λ w. w.seat) woken.waits))

-- the seat still owes wakes: it found the lock held that it has to take
abbrev pub StillOwesMany : SeatModel → SeatModel → Type 0
StillOwesMany s t = (r : ReleaseMany) × IsAt s (ReleasingMany r M3) × FindsHeld s r.counter t

-- all units were added, and nobody waited at the root; or somebody did, and the release went on to wake
abbrev pub IsReleasedMany : SeatModel → ReleaseMany → SeatModel → ℕ → Type 0
IsReleasedMany s r t n =
    (IsPostedMany s r (Done t) × (n ≡ 0)) ⊎ ((u : SeatModel) × IsPostedMany s r (Owes u) × IsWokenMany u t n)
