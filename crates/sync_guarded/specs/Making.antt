-- What a guarded value is as it is made.
use Rattle.std.specs.Prelude.{◌≡◌, ℕ, List, [], map}
use Rattle.std.specs.List.{range_with_len}
use Rattle.sema_table.specs.declared.setup_error.SetupError.{SetupError}
use Rattle.sema_table.specs.declared.setup_error.SetupError.TheVariants.{Seats, NoMemory}
use Rattle.sema_table.specs.Making.{IsFromOne, IsOutside, most_seats}
use Rattle.running_rows.specs.declared.view.View.{View}
use Rattle.running_rows.specs.Futex.{fresh_parking}
use Rattle.sync_guarded.specs.declared.view.GuardKnown.{GuardKnown}
use Rattle.sync_guarded.specs.declared.view.GuardCall.{GuardCall}
use Rattle.sync_guarded.specs.Rule.{idle}
use Rattle.sync_guarded.specs.Seats.{GuardedModel, SeatModel}

-- the view of the seat 0 as it has made so many of these seats, itself among them
abbrev pub has_made : {T : Type 0} → ℕ → ℕ → View (GuardKnown T) (GuardCall T)
has_made seats made =
    record { own = record { number = 0; knows = idle seats; gone = [] }; guests = []; made = made; parking = fresh_parking }

-- a seat that has called nothing
abbrev pub new_seat : {T : Type 0} → GuardedModel → ℕ → SeatModel T
new_seat g number = record { guarded = g; number = number; calls = [] }

-- it has so many seats, which have called nothing, in the order of their numbers
pub record IsMade {T : Type 0} (seats : ℕ) (g : GuardedModel) (made : List (SeatModel T)) : Type 0 where
  pub allowed : IsFromOne most_seats seats
  pub number : g.seats ≡ seats
  pub seats_are : made ≡ map (new_seat g) (range_with_len 0 seats)

-- there are not 1 to 65,536 seats, or there are, and memory was refused
abbrev pub IsRefused : ℕ → SetupError → Type 0
IsRefused seats Seats = IsOutside most_seats seats
IsRefused seats NoMemory = IsFromOne most_seats seats
IsRefused seats _ = ⊥
