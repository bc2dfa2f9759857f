-- What a wait group is as it is made.
use Rattle.std.specs.Prelude.{◌≡◌, ℕ, List, [], map}
use Rattle.sema_table.specs.declared.setup_error.SetupError.{SetupError}
use Rattle.sema_table.specs.declared.setup_error.SetupError.TheVariants.{Seats, NoMemory}
use Rattle.sema_table.specs.Seats.{SeatModel}
use Rattle.sema_table.specs.Making.{IsFromOne, IsOutside, most_seats, new_seats}
use Rattle.running_rows.specs.Seated.{TableId}
use Rattle.running_rows.specs.Rule.{first_view}
use Rattle.sync_parts.specs.GroupRule.{group_rows}
use Rattle.sync_parts.specs.GroupPlays.{GroupView}
use Rattle.sync_parts.specs.GroupSeats.{GroupModel, GroupSeatModel, group_setting}

-- the view of the seat 0 as it has made so many of these seats, itself among them
abbrev pub has_made : ℕ → ℕ → GroupView
has_made seats made = record (first_view group_rows seats) { made = made }

-- a seat of this state word that has run nothing on it
abbrev pub seat_on : TableId → SeatModel → GroupSeatModel
seat_on word s = record { group = record { word = word; sema = s.table }; sema = s; steps = [] }

-- a group with so many seats, in the order of their numbers, which have run nothing
pub record IsGroupMade (seats : ℕ) (g : GroupModel) (made : List GroupSeatModel) : Type 0 where
  pub allowed : IsFromOne most_seats seats
  pub setting : g.sema.setting ≡ group_setting seats
  pub seats_are : made ≡ map (seat_on g.word) (new_seats g.sema 0 seats)

-- there are not 1 to 65,536 seats, or there are, and memory was refused
abbrev pub IsGroupRefused : ℕ → SetupError → Type 0
IsGroupRefused seats Seats = IsOutside most_seats seats
IsGroupRefused seats NoMemory = IsFromOne most_seats seats
IsGroupRefused seats _ = ⊥
