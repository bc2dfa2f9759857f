-- Which words a scenario's run has, and what every picture of a run keeps.
use Rattle.std.specs.Prelude.{ℕ, ◌+◌, ◌<◌, Option, Some, length}
use Rattle.step_table.specs.declared.list_place.ListPlace.{ListPlace}
use Rattle.step_table.specs.declared.list_place.ListPlace.TheVariants.{Waiting}
use Rattle.step_table.specs.declared.list_place.ListWord.{ListWord}
use Rattle.step_table.specs.declared.list_place.ListWord.TheVariants as on_list
use Rattle.step_table.specs.declared.list_place.Ticket.{Ticket}
use Rattle.step_table.specs.declared.parts.Parts.{Parts}
use Rattle.step_table.specs.declared.word.Word.{Word}
use Rattle.step_table.specs.declared.word.Word.TheVariants.{Counter, Lock, Waiters, Grant}
use Rattle.step_table.specs.ListWorld.{ListSeat}

-- the counter is there: those of groups come after the others
abbrev pub HasCounter : Parts → ℕ → Type 0
HasCounter parts c = c < length parts.starts + parts.groups

abbrev pub HasWordOf : Parts → Word → Type 0
HasWordOf parts (Counter c) = HasCounter parts c
HasWordOf parts (Lock c) = HasCounter parts c
HasWordOf parts (Waiters c) = HasCounter parts c
HasWordOf parts (Grant s) = s < length parts.calls

-- and of a list that is there
abbrev pub HasListWordOf : Parts → ListWord → Type 0
HasListWordOf parts (on_list.Grant s) = s < length parts.calls
HasListWordOf parts word = Unit {0}

-- the ticket that a seat holds, or waits with
abbrev pub ticket_at : ListPlace → Option Ticket → Option Ticket
ticket_at (Waiting t row) held = Some t
ticket_at place held = held

abbrev pub ticket_of : ListSeat → Option Ticket
ticket_of seat = ticket_at seat.place seat.ticket
