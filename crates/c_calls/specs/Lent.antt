-- A cell whose place is lent.
use Rattle.std.specs.Prelude.{[], ◌∷◌}
use Rattle.c_calls.specs.declared.cell.Cell.{Cell}
use Rattle.c_calls.specs.declared.kept_seat.KeptSeat.{KeptSeat}

abbrev pub with_place : Cell → KeptSeat → Cell
with_place c p = record c { places = p ∷ [] }
