-- What a cell owns: the same as a `Box<KeptSeat>`, or nothing where nothing is kept.
use Rattle.std.specs.Prelude.{ℕ, Bool, true, false, List, [], ◌∷◌}
use base.Fml.{Fml, ftrue}
use base.Stored.{Coded, coded_list}
use denote.RawPtr.{Ptr}
use Rattle.std.below.std_heap.specs.contracts.GlobalAllocator.TheImpl.{ghosts}
use mir.Syntax.{Ty}
use Rattle.std.specs.Box.Ownership.{box_owns}
use Rattle.c_calls.specs.contracts.kept_seat.KeptSeat.{the_row}

-- the right to free a block of the heap, which has one handle
abbrev pub heap_block : Ty → Ptr → Fml
heap_block = ghosts.dealloc_token (record { memory = record { seal = tt } })

abbrev pub cell_owns : Ptr → List the_row.Denot → Fml
cell_owns at [] = ftrue
cell_owns at (place ∷ _) = box_owns heap_block the_row at place

abbrev pub places_coded : Coded (List the_row.Denot)
places_coded = coded_list the_row.coded

-- how many places a cell has
abbrev pub count : Bool → ℕ
count true = 1
count false = 0
