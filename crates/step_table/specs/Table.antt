-- The step table.
use Rattle.std.specs.Prelude.{ℕ, List}
use Rattle.waiters.specs.declared.wait.WaitId.{WaitId}
use Rattle.step_table.specs.declared.place.Place.{Place}
use Rattle.step_table.specs.declared.place.Place.TheVariants.{Rest, Acquiring, Releasing, ReleasingMany}
use Rattle.step_table.specs.declared.word.Word.TheVariants.{Grant}
use Rattle.step_table.specs.World.{SeatState}
use Rattle.step_table.specs.EventOf.{stays}
use Rattle.step_table.specs.Event.{Event, to}
use Rattle.step_table.specs.Acquire.{acquire_event}
use Rattle.step_table.specs.Release.{release_event}
use Rattle.step_table.specs.ReleaseMany.{release_many_event}

-- the event at this place, for the seat s
abbrev pub event_at : ℕ → SeatState → (ℕ → List WaitId) → Place → Event
event_at s seat lists Rest = stays (Grant s) (to Rest)
event_at s seat lists (Acquiring a row) = acquire_event s seat.turn (lists a.counter) a row
event_at s seat lists (Releasing r row) = release_event s seat.hand (lists r.counter) r row
event_at s seat lists (ReleasingMany r row) = release_many_event s seat.hand (lists r.counter) r row

-- the event of the row at which the seat stands
abbrev pub table : ℕ → SeatState → (ℕ → List WaitId) → Event
table s seat lists = event_at s seat lists seat.place
