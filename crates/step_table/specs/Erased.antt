-- Waits and places of semaphores without what no row looks at.
use Rattle.std.specs.Prelude.{List, map}
use Rattle.waiters.specs.declared.wait.WaitId.{WaitId}
use Rattle.step_table.specs.declared.place.AcquireRow.{AcquireRow}
use Rattle.step_table.specs.declared.place.AcquireRow.TheVariants.{Parked}
use Rattle.step_table.specs.declared.place.Place.{Place}
use Rattle.step_table.specs.declared.place.Place.TheVariants.{Acquiring}

-- a wait by its seat alone
abbrev pub erased_id : WaitId → WaitId
erased_id w = record { seat = w.seat; turn = 0 }

abbrev pub erased_ids : List WaitId → List WaitId
erased_ids waits = map erased_id waits

abbrev pub erased_row : AcquireRow → AcquireRow
erased_row (Parked turn row) = Parked 0 row
erased_row row = row

abbrev pub erased_place : Place → Place
erased_place (Acquiring a row) = Acquiring a (erased_row row)
erased_place place = place
