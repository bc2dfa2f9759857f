-- Which seat of a table or of a list a handle has.
use Rattle.std.specs.Prelude.{Option}
use Rattle.sema_table.specs.TaskSeats as table
use Rattle.notify_list.specs.TaskSeats as list
use Rattle.c_calls.specs.declared.handle.SeatHandle.{SeatHandle}
use Rattle.c_calls.specs.Places.{seat_of, at_table, at_list}

abbrev pub table_seat : SeatHandle → Option table.TaskModel
table_seat h = seat_of at_table h.cell.places

abbrev pub list_seat : SeatHandle → Option list.TaskModel
list_seat h = seat_of at_list h.cell.places
