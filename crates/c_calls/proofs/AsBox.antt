-- A place on the heap, as the steps of a box name it.
use mir.Syntax.{impl, tnil, dnil}
use mathlib.Core.List.{[]}
use denote.Signature.{Slot, plain}
use Rattle.std.proofs.BoxSteps.Form.{Bx}
use Rattle.std.below.std_heap.specs.contracts.Global as Heap
use Rattle.std.below.std_heap.specs.contracts.GlobalAllocator.TheImpl.{ghosts, dict}
use Rattle.std.below.std_heap.proofs.Global.TheLaws as heap
use Rattle.c_calls.specs.contracts.kept_seat.KeptSeat as Kept
use Rattle.c_calls.proofs.kept_seat.KeptSeat.TheLaws as kept
use Rattle.c_calls.specs.contracts.box_parts.BoxParts as Parts
use Rattle.c_calls.specs.contracts.cell.Cell as Cell

abbrev pub E : Bx
E = record { row = Kept.the_row; laws = kept.the_row_laws; al = record { row = Heap.the_row; laws = heap.the_row_laws; g = ghosts; d = dict; drops = impl [] tnil dnil } }

abbrev pub FromParts : Slot 0
FromParts = plain (λ _. Parts.the_row Kept.the_row Heap.the_row ghosts)

abbrev pub FromCell : Slot 0
FromCell = plain (λ _. Cell.the_row)
