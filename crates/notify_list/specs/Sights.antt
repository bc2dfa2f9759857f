-- What a view has of a seat: an entry of the journal, a sight, and a stride, by their parts.
use Rattle.std.specs.Prelude.{ℕ, List, Option, Some, None}
use Rattle.waiters.specs.declared.wait.Wait.{Wait}
use Rattle.step_table.specs.declared.list_place.ListPlace.{ListPlace}
use Rattle.step_table.specs.declared.list_place.ListWord.{ListWord}
use Rattle.step_table.specs.declared.list_place.Ticket.{Ticket}
use Rattle.step_table.specs.ListWorld.{ListEntry, Took, Granted, Forgone}
use Rattle.step_table.specs.Path.{Deed, runs, looks}
use Rattle.step_law_lists.specs.ListPath.{ListSight, ListStride}

-- a ticket was taken by the seat; or it granted tickets up to so many; or it left with the ticket of this
-- number
abbrev pub entry_of : Option ℕ → Option ℕ → ℕ → ListEntry
entry_of None None seat = Took seat
entry_of (Some upto) _ seat = Granted upto seat
entry_of None (Some number) seat = Forgone number seat

abbrev pub sight_of : ListPlace → Option Ticket → List Wait → ℕ → List ListEntry → ListSight
sight_of place ticket hand late seen =
    record { stands = record { place = place; ticket = ticket; hand = hand; late = late }; seen = seen }

-- the seat ran its row, or only looked at this word
abbrev pub deed_of : Option ListWord → Deed ListWord
deed_of None = runs
deed_of (Some word) = looks word

abbrev pub stride_of : ListSight → Option ListWord → ℕ → List ListEntry → ListStride
stride_of before looked read told =
    record { deed = deed_of looked; stood = before.stands; read = read; seen = before.seen; told = told }
