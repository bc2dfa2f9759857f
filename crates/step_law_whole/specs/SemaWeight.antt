-- The weight of a world of semaphores: a number that each row lowers, whichever seat runs it, and that only a
-- call which begins raises, by what the call costs. So it tells how many rows can still be run.
use Rattle.std.specs.Prelude.{ℕ, zero, suc, ◌+◌, ◌-◌, ◌*◌, min, ◌==◌, if◌then◌else◌, Bool, true, false}
use Rattle.std.specs.Prelude.{length}
use Rattle.step_table.specs.declared.place.AcquireRow.{AcquireRow}
use Rattle.step_table.specs.declared.place.AcquireRow.TheVariants.{A1, A2, A3, A4, A5, A6, A7, A8, A9, Parked, A10}
use Rattle.step_table.specs.declared.place.ParkedRow.TheVariants.{P, D2, D3, D5}
use Rattle.step_table.specs.declared.place.AcquireRow.TheVariants.{A11, D4}
use Rattle.step_table.specs.declared.place.ReleaseRow.{ReleaseRow}
use Rattle.step_table.specs.declared.place.ReleaseRow.TheVariants.{R1, R2, R3, R4, R5, R6, R7, R8, R9, R10}
use Rattle.step_table.specs.declared.place.ManyRow.{ManyRow}
use Rattle.step_table.specs.declared.place.ManyRow.TheVariants.{M1, M2, M3, M4, M5, M6, M7}
use Rattle.step_table.specs.declared.place.Place.{Place}
use Rattle.step_table.specs.declared.place.ParkedRow.{ParkedRow}
use Rattle.step_table.specs.declared.place.Place.TheVariants.{Rest, Acquiring, Releasing, ReleasingMany}
use Rattle.step_table.specs.World.{Layout, SemaWorld}
use Rattle.step_table.specs.Steps.{Choice, moved}
use Rattle.step_table.specs.Counting.{total}

-- of n seats: what a sleeper weighs, with this grant. It keeps what its exchanges cost the others, so who wakes
-- it pays for the six rows of a round in vain alone
abbrev pub asleep_weight : ℕ → ℕ → ℕ
asleep_weight n zero = 2 * n
asleep_weight n (suc zero) = 2 * n + 6
asleep_weight n (suc (suc grant)) = 1

-- the same of one that may give up: where it is about to take its wait out, it keeps nothing for the others
abbrev pub parked_weight : ℕ → ParkedRow → ℕ → ℕ
parked_weight n P grant = asleep_weight n grant
parked_weight n D2 grant = asleep_weight n grant + 2
parked_weight n D3 grant = asleep_weight n grant - 2 * n + 2
parked_weight n D5 grant = asleep_weight n grant + 1

-- of n seats: what a seat weighs at a row of an acquire, with this grant
abbrev pub acquire_weight : ℕ → AcquireRow → ℕ → ℕ
acquire_weight n A1 grant = 2 * n + 5
acquire_weight n (A2 left) grant = 2 * n + 4
acquire_weight n A3 grant = 2 * n + 4
acquire_weight n A4 grant = 2 * n + 3
acquire_weight n A5 grant = 2 * n + 2
acquire_weight n (A6 left) grant = 2 * n + 1
acquire_weight n A7 grant = 2 * n + 1
acquire_weight n A8 grant = 2
acquire_weight n A9 grant = 1
acquire_weight n A10 grant = 2 * n + 5
acquire_weight n (A11 left) grant = 2 * n + 4
acquire_weight n D4 grant = 1
acquire_weight n (Parked turn row) grant = parked_weight n row grant

-- what a release pays beside, while it may still take the unit for the waiter: that exchange may make all
-- others stale
abbrev pub handing : ℕ → Bool → ℕ
handing n true = 2 * n - 1
handing n false = 0

abbrev pub release_weight : ℕ → Bool → ReleaseRow → ℕ
release_weight n handoff R1 = 2 * n + 11 + handing n handoff
release_weight n handoff R2 = 12 + handing n handoff
release_weight n handoff R3 = 11 + handing n handoff
release_weight n handoff R4 = 10 + handing n handoff
release_weight n handoff R5 = 9 + handing n handoff
release_weight n handoff R6 = 8 + handing n handoff
release_weight n handoff R7 = 2 * n + 6
release_weight n handoff (R8 left) = 2 * n + 5
release_weight n handoff R9 = 1
release_weight n handoff R10 = 7

-- the same of a release of so many units, with so many waits in hand. It wakes no more waits than it has
-- units, or there are other seats
abbrev pub many_weight : ℕ → ℕ → ManyRow → ℕ → ℕ
many_weight n units M1 in_hand = 2 * n + 8 * min units (n - 1) + 3
many_weight n units M2 in_hand = 8 * min units (n - 1) + 4
many_weight n units M3 in_hand = 8 * min units (n - 1) + 3
many_weight n units M4 in_hand = 8 * min units (n - 1) + 2
many_weight n units M5 in_hand = 8 * min units (n - 1) + 1 - in_hand
many_weight n units M6 in_hand = 7 * in_hand + 1
many_weight n units M7 in_hand = 7 * in_hand

abbrev pub place_weight : ℕ → Place → ℕ → ℕ → ℕ
place_weight n Rest in_hand grant = 0
place_weight n (Acquiring a row) in_hand grant = acquire_weight n row grant
place_weight n (Releasing r row) in_hand grant = release_weight n r.handoff row
place_weight n (ReleasingMany r row) in_hand grant = many_weight n r.units row in_hand

-- 2 where an exchange that would leave so many is stale, as the number isn't what was read: it is lost, and
-- looks again
abbrev pub stale_by : ℕ → ℕ → ℕ
stale_by left number = if number == left + 1 then 0 else 2

abbrev pub stale : (ℕ → ℕ) → Place → ℕ
stale numbers (Acquiring a (A2 left)) = stale_by left (numbers a.counter)
stale numbers (Acquiring a (A6 left)) = stale_by left (numbers a.counter)
stale numbers (Acquiring a (A11 left)) = stale_by left (numbers a.counter)
stale numbers (Releasing r (R8 left)) = stale_by left (numbers r.counter)
stale numbers _ = 0

-- what seat k weighs
abbrev pub seat_weight : ℕ → SemaWorld → ℕ → ℕ
seat_weight n s k =
    place_weight n (s.seats k).place (length (s.seats k).hand) (s.words.grants k) + stale s.words.numbers
    (s.seats k).place

abbrev pub weight : Layout → SemaWorld → ℕ
weight m s = total m.seats (seat_weight m.seats s)

-- of n seats: what a caller's choice between two places costs. To decide whether a unit is handed over costs
-- what is paid beside for handing it over, to give up a sleep two rows and the way back, to sleep on beside a wait
-- that was to be taken out what a sleeper keeps, and all else nothing
abbrev pub release_cost : ℕ → Bool → ℕ
release_cost n true = 4 * n + 10
release_cost n false = 2 * n + 11

abbrev pub cost : ℕ → Place → Place → ℕ
cost n Rest (Acquiring a row) = 2 * n + 5
cost n Rest (Releasing r row) = release_cost n r.handoff
cost n Rest (ReleasingMany r row) = 2 * n + 8 * min r.units (n - 1) + 3
cost n (Releasing q row) (Releasing r other) = 2 * n - 1
cost n (Acquiring a (Parked turn P)) q = 2
cost n (Acquiring a (Parked turn D3)) q = 2 * n - 1
cost n _ _ = 0

-- the caller of seat i chooses, at this cost
pub data Chosen (m : Layout) (s : SemaWorld) (i : ℕ) : ℕ → SemaWorld → Type 0 where
  chosen : {place : Place} → Choice m.counters (s.seats i).place place
      → Chosen m s i (cost m.seats (s.seats i).place place) (moved s i place)
