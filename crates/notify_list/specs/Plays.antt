-- Where the steps of a call begin.
use Rattle.running_rows.specs.Table as atomic
use Rattle.step_table.specs.declared.list_place.AllRow.TheVariants.{L1}
use Rattle.step_table.specs.declared.list_place.ListPlace.TheVariants.{Adding, NotifyingOne, NotifyingAll}
use Rattle.step_table.specs.declared.list_place.OneRow.TheVariants.{O1}
use Rattle.step_table.specs.ListWorld.{ListSeat}
use Rattle.step_law_lists.specs.ListPath.{ListStride}
use Rattle.running_rows.specs.declared.view.View.{View}
use Rattle.running_rows.specs.declared.view.Seated.{Seated}
use Rattle.notify_list.specs.declared.view.Known.{Known}
use Rattle.notify_list.specs.declared.view.Record.{Record}
use Rattle.notify_list.specs.Places.{at_place, waiting, giving_up}

-- one seat of a list, the view of its token, and what the token holds
abbrev pub OneSeat : Type 0
OneSeat = Seated Known ListStride

abbrev pub ListView : Type 0
ListView = View Known ListStride

abbrev pub Me : Type 0
Me = atomic.Me Record ListView

-- what the seat knows that stands otherwise, by its caller's choice
abbrev pub standing : ListSeat → Known → Known
standing a v = record v { sight = record { stands = a; seen = v.sight.seen } }

-- N1
abbrev pub at_ticket : Known → Known
at_ticket v = standing (at_place Adding v.sight.stands) v

-- O1
abbrev pub at_one : Known → Known
at_one v = standing (at_place (NotifyingOne 0 O1) v.sight.stands) v

-- L1
abbrev pub at_all : Known → Known
at_all v = standing (at_place (NotifyingAll 0 L1) v.sight.stands) v

-- E1
abbrev pub at_leave : Known → Known
at_leave v = standing (giving_up v.sight.stands) v

-- the row at which it stands; W1 of a seat that holds a ticket
abbrev pub at_wait : Known → Known
at_wait v = standing (waiting v.sight.stands) v
