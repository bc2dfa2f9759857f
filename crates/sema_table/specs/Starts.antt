-- At which row a step begins.
use Rattle.std.specs.Prelude.{◌/◌, false}
use mathlib.Core.Option.{Option, some}
use Rattle.running_rows.specs.Table.{Step}
use Rattle.step_table.specs.declared.place.AcquireRow.TheVariants.{A1, Parked}
use Rattle.step_table.specs.declared.place.ParkedRow.TheVariants.{D3, D5}
use Rattle.step_table.specs.declared.place.ReleaseRow.TheVariants.{R1}
use Rattle.step_table.specs.declared.place.ManyRow.TheVariants.{M1}
use Rattle.step_table.specs.declared.place.Place.{Place}
use Rattle.step_table.specs.declared.place.Place.TheVariants.{Rest, Acquiring, Releasing, ReleasingMany}
use Rattle.sema_table.specs.declared.view.Known.{Known}
use Rattle.sema_table.specs.declared.view.Record.{Record}
use Rattle.sema_table.specs.declared.view.Record.TheVariants.{Begins}

-- the seat at another place, by its caller's choice
abbrev pub begin : Place → Known → Known
begin place v = record v { place = place }

-- the counter of a word: counters lie eight words apart
abbrev pub at_try : Step Record → Known → Known
at_try st = begin (Acquiring (record { counter = st.word / 8; lifo = false }) A1)

abbrev pub at_add : Step Record → Known → Known
at_add st = begin (Releasing (record { counter = st.word / 8; handoff = false }) R1)

abbrev pub at_add_many : Step Record → Known → Known
at_add_many st = begin (ReleasingMany (record { counter = st.word / 8; units = st.first }) M1)

-- a seat that gives up and has the lock sleeps on after all
abbrev pub stays : Place → Place
stays (Acquiring a (Parked turn D3)) = Acquiring a (Parked turn D5)
stays place = place

abbrev pub at_stay : Step Record → Known → Known
at_stay st v = begin (stays v.place) v

-- the place that a step was told of
abbrev pub place_told : Option Record → Place
place_told (some (Begins place)) = place
place_told _ = Rest

abbrev pub at_said : Step Record → Known → Known
at_said st = begin (place_told st.said)
