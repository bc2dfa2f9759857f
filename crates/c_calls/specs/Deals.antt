-- What it is to make a table or a list for a caller, and to deal its seats.
use Rattle.std.specs.Prelude.{◌≡◌, ℕ, ◌⊎◌, min, true, false, Option, Some, List, map, length}
use Rattle.std.specs.List.{All, Any}
use Rattle.sema_table.specs.declared.settings.Settings.{Settings}
use Rattle.sema_table.specs.Seats.{TableModel}
use Rattle.sema_table.specs.Making.{IsRefused}
use Rattle.sema_table.specs.Tasks.{IsMadeForTasks}
use Rattle.notify_list.specs.Seats.{ListModel}
use Rattle.notify_list.specs.Making as list_making
use Rattle.notify_list.specs.Tasks as list_tasks
use Rattle.c_calls.specs.declared.handle.SeatHandle.{SeatHandle}
use Rattle.c_calls.specs.declared.kept_seat.KeptSeat.{KeptSeat}
use Rattle.c_calls.specs.Codes.{setup_code}
use Rattle.c_calls.specs.ListCodes as list_codes
use Rattle.c_calls.specs.Places.{seat_of, at_table, at_list}

-- each handle has one of these seats, in their order
abbrev pub HandlesHold : {S : Type 0} → (KeptSeat → Option S) → List S → List SeatHandle → Type 0
HandlesHold seat seats handles = map (λ h. seat_of seat h.cell.places) handles ≡ map Some seats

-- some seats were made, as is said of them, and dealt; or nothing was done, and the code tells why it is refused,
-- or that memory lacks
abbrev pub Deals : {S E : Type 0} → (KeptSeat → Option S) → (List S → Type 0) → (E → ℕ) → (E → Type 0)
    → List SeatHandle → ℕ → List SeatHandle → Type 0
Deals {S} {E} seat IsMade setup IsRefused handles code now =
    ((seats : List S) × (code ≡ 0) × IsMade seats × HandlesHold seat seats now)
    ⊎ ((e : E) × (code ≡ setup e) × IsRefused e × (now ≡ handles))
    ⊎ ((code ≡ 114) × (now ≡ handles))

-- these seats were dealt; or memory lacks, and nothing was done
abbrev pub GivesSeats : {S : Type 0} → (KeptSeat → Option S) → List S
    → List SeatHandle → ℕ → List SeatHandle → Type 0
GivesSeats seat seats handles code now =
    ((code ≡ 0) × HandlesHold seat seats now) ⊎ ((code ≡ 114) × (now ≡ handles))

-- these settings were asked for. Of more seats than a table may have it only counts that they are more
pub record Asks (starts : List ℕ) (roots seed limit seats : ℕ) (k : Settings) : Type 0 where
  pub starts_are : k.starts.items ≡ starts
  pub roots_are : k.roots ≡ roots
  pub seed_is : k.seed ≡ seed
  pub limit_is : k.release_limit ≡ limit
  pub seats_are : k.seats ≡ min 65537 seats

-- a table was made as asked, and its seats dealt, none of which has run or seen anything; or nothing was done,
-- and the code tells the first limit that isn't kept, or that memory lacks
abbrev pub DealsTable : List ℕ → ℕ → ℕ → ℕ → List SeatHandle → ℕ → List SeatHandle → Type 0
DealsTable starts roots seed limit handles =
    Deals at_table
    (λ seats. (k : Settings) × (t : TableModel)
    × Asks starts roots seed limit (length handles) k × IsMadeForTasks k t seats)
    setup_code
    (λ e. (k : Settings) × Asks starts roots seed limit (length handles) k × IsRefused k e)
    handles

-- a list was made that starts so, and its seats dealt, none of which has run or seen anything; or nothing was
-- done, and the code tells that the number of seats isn't allowed, or that memory lacks. Of more seats than a
-- list may have it only counts that they are more
abbrev pub DealsList : ℕ → List SeatHandle → ℕ → List SeatHandle → Type 0
DealsList first handles =
    Deals at_list
    (λ seats. (l : ListModel) × list_tasks.IsMadeForTasks first (min 65537 (length handles)) l seats)
    list_codes.setup_code
    (λ e. list_making.IsRefused (min 65537 (length handles)) e)
    handles

-- seats are dealt so, where no handle had one; or a handle had one, and nothing was done
abbrev pub DealsToEmpty : (List SeatHandle → ℕ → List SeatHandle → Type 0)
    → List SeatHandle → ℕ → List SeatHandle → Type 0
DealsToEmpty Dealt handles code now =
    (All (λ h. h.is_full ≡ false) handles × Dealt handles code now)
    ⊎ (Any (λ h. h.is_full ≡ true) handles × (code ≡ 105) × (now ≡ handles))
