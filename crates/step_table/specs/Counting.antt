-- What all laws count with: sums, waits in a list, and the counter of a call.
use Rattle.std.specs.Prelude.{ℕ, zero, suc, ◌+◌, ◌<◌, ◌≤◌, List, [], ◌∷◌, eqb, cond}
use Rattle.waiters.specs.declared.wait.WaitId.{WaitId}
use Rattle.step_table.specs.declared.place.Place.{Place}
use Rattle.step_table.specs.declared.place.Place.TheVariants.{Rest, Acquiring, Releasing, ReleasingMany}

-- f 0 + .. + f (n - 1)
unfoldable pub total : ℕ → (ℕ → ℕ) → ℕ
total zero f = 0
total (suc n) f = total n f + f n

-- n where the two numbers are one, and else 0
unfoldable pub on : ℕ → ℕ → ℕ → ℕ
on a b n = cond (eqb a b) n 0

-- 1 where the two are one wait
abbrev pub same : WaitId → WaitId → ℕ
same w x = on w.seat x.seat (on w.turn x.turn 1)

abbrev pub wait : ℕ → ℕ → WaitId
wait s t = record { seat = s; turn = t }

-- how often a wait stands in a list
abbrev pub times : WaitId → List WaitId → ℕ
times w [] = 0
times w (x ∷ l) = same w x + times w l

-- how often a number stands in a list of numbers
abbrev pub among : ℕ → List ℕ → ℕ
among n [] = 0
among n (m ∷ l) = on n m 1 + among n l

-- 1 where a grant word isn't 0
abbrev pub granted : ℕ → ℕ
granted zero = 0
granted (suc g) = 1

-- the counter that a seat's call is on
abbrev pub counter_at : Place → ℕ
counter_at Rest = 0
counter_at (Acquiring a row) = a.counter
counter_at (Releasing r row) = r.counter
counter_at (ReleasingMany r row) = r.counter

-- a seat's call is on a counter that is there, and a release of many is of 1 to 256 units
abbrev pub IsWithin : ℕ → Place → Type 0
IsWithin counters Rest = Unit {0}
IsWithin counters (Acquiring a row) = a.counter < counters
IsWithin counters (Releasing r row) = r.counter < counters
IsWithin counters (ReleasingMany r row) = (r.counter < counters) × (1 ≤ r.units) × (r.units ≤ 256)
