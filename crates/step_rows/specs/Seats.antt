-- The grant word and the hand of each seat, as they are held.
use Rattle.std.specs.Prelude.{ℕ, ◌<◌, ◌≤◌, ◌==◌, Bool, List, length, map}
use Rattle.std.specs.List.{All, filter, range_with_len}
use Rattle.waiters.specs.declared.wait.WaitId.{WaitId}
use Rattle.step_rows.specs.declared.seats.Held.{Held}

-- the grant word of each seat, and the waits that it has in hand
pub record Seats : Type 0 where
  pub grants : List ℕ
  pub hands : List (List WaitId)

-- whether a wait is in the hand of this seat
abbrev pub is_of : ℕ → Held → Bool
is_of seat held = held.seat == seat

-- the waits in the hand of a seat, in the order in which they were taken
abbrev pub hand_in : List Held → ℕ → List WaitId
hand_in held seat = map (λ (held : Held). held.wait) (filter (is_of seat) held)

abbrev pub hands_in : List Held → ℕ → List (List WaitId)
hands_in held seats = map (hand_in held) (range_with_len 0 seats)

-- each wait is in the hand of a seat that there is, and there is room for a wait of each seat
pub record AreHeld (held : List Held) (seats capacity : ℕ) : Type 0 where
  pub of_seats : All (λ (held : Held). held.seat < seats) held
  pub few : length held ≤ seats
  pub room : seats ≤ capacity

-- the seats of waits
abbrev pub ids_of : List WaitId → List ℕ
ids_of = map (λ (w : WaitId). w.seat)
