-- What a list is as it is made, and which numbers of seats make none.
use Rattle.std.specs.Prelude.{◌≡◌, ◌⊎◌, ℕ, ◌<◌, ◌≤◌, true, false, List, [], map, None}
use Rattle.std.specs.List.{range_with_len}
use Rattle.step_table.specs.declared.list_place.ListPlace.TheVariants.{Rest}
use Rattle.notify_list.specs.declared.setup_error.SetupError.{SetupError}
use Rattle.notify_list.specs.declared.view.Setting.{Setting}
use Rattle.notify_list.specs.declared.setup_error.SetupError.TheVariants.{Seats, NoMemory}
use Rattle.notify_list.specs.Seats.{ListModel, SeatModel}

-- 1 to 65,536, or not
abbrev pub AreAllowed : ℕ → Type 0
AreAllowed seats = (1 ≤ seats) × (seats ≤ 65536)

abbrev pub AreOutside : ℕ → Type 0
AreOutside seats = (seats ≡ 0) ⊎ (65536 < seats)

-- there is no memory for a list only where the number of seats is allowed
abbrev pub IsRefused : ℕ → SetupError → Type 0
IsRefused seats Seats = AreOutside seats
IsRefused seats NoMemory = AreAllowed seats

-- a seat that has run nothing: it rests, holds no ticket, and has seen nothing
abbrev pub new_seat : ListModel → ℕ → SeatModel
new_seat l number =
    record {
      list = l;
      number = number;
      sight = record { stands = record { place = Rest; ticket = None; hand = []; late = 0 }; seen = [] };
      strides = [];
    }

-- so many of them in order, from this number on
abbrev pub new_seats : ListModel → ℕ → ℕ → List SeatModel
new_seats l number count = map (new_seat l) (range_with_len number count)

-- what a list is made with: threads sleep at its words, or none does
abbrev pub for_threads : ℕ → ℕ → Setting
for_threads first count = record { first = first; seats = count; has_threads = true }

abbrev pub for_tasks : ℕ → ℕ → Setting
for_tasks first count = record { first = first; seats = count; has_threads = false }

-- a list made so, and its seats in the order of their numbers
pub record IsMadeWith (z : Setting) (l : ListModel) (seats : List SeatModel) : Type 0 where
  pub allowed : AreAllowed z.seats
  pub setting : l.setting ≡ z
  pub seats_are : seats ≡ new_seats l 0 z.seats

-- the same for threads: its first ticket has this word, and it has so many seats
abbrev pub IsMade : ℕ → ℕ → ListModel → List SeatModel → Type 0
IsMade first count = IsMadeWith (for_threads first count)
