-- Waits, tickets and places of a notify list without what no row looks at.
use Rattle.std.specs.Prelude.{List, map, Option, Some, None}
use Rattle.waiters.specs.declared.wait.Wait.{Wait}
use Rattle.step_table.specs.declared.list_place.AllRow.{AllRow}
use Rattle.step_table.specs.declared.list_place.AllRow.TheVariants.{L6, L7}
use Rattle.step_table.specs.declared.list_place.ListPlace.{ListPlace}
use Rattle.step_table.specs.declared.list_place.ListPlace.TheVariants.{Waiting, NotifyingOne, NotifyingAll}
use Rattle.step_table.specs.declared.list_place.Ticket.{Ticket}

-- without the number of its ticket
abbrev pub erased_wait : Wait → Wait
erased_wait w = record { id = record { seat = w.id.seat; turn = 0 }; ticket = w.ticket }

abbrev pub erased_waits : List Wait → List Wait
erased_waits l = map erased_wait l

-- L6 carries a number, and L7 how many tickets the call has granted
abbrev pub erased_all_row : AllRow → AllRow
erased_all_row (L6 r) = L6 (record r { handed = 0 })
erased_all_row (L7 n) = L7 0
erased_all_row row = row

abbrev pub erased_ticket : Ticket → Ticket
erased_ticket t = record { word = t.word; number = 0 }

abbrev pub erased_held : Option Ticket → Option Ticket
erased_held None = None
erased_held (Some t) = Some (erased_ticket t)

abbrev pub erased_list_place : ListPlace → ListPlace
erased_list_place (Waiting t row) = Waiting (erased_ticket t) row
erased_list_place (NotifyingOne h row) = NotifyingOne 0 row
erased_list_place (NotifyingAll h row) = NotifyingAll 0 (erased_all_row row)
erased_list_place place = place
