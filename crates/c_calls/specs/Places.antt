-- Which seat a handle has.
use Rattle.std.specs.Prelude.{Option, None, List, [], ◌∷◌}
use Rattle.sema_table.specs.TaskSeats as table
use Rattle.notify_list.specs.TaskSeats as list
use Rattle.c_calls.specs.declared.kept_seat.KeptSeat.{KeptSeat}
use Rattle.c_calls.specs.declared.kept_seat.KeptSeat.TheVariants.{OfTable, OfList}

-- a table's seat. A list's is none there
abbrev pub at_table : KeptSeat → Option table.TaskModel
at_table (OfTable p) = p.seat
at_table (OfList p) = None

-- a list's seat. A table's is none there
abbrev pub at_list : KeptSeat → Option list.TaskModel
at_list (OfTable p) = None
at_list (OfList p) = p.seat

-- of what a handle keeps, which is one or nothing
abbrev pub seat_of : {S : Type 0} → (KeptSeat → Option S) → List KeptSeat → Option S
seat_of seat [] = None
seat_of seat (k ∷ _) = seat k
