-- What a call of one seat is to its caller: the rows that it ran, the entries that it told, and what it has
-- seen then.
use Rattle.std.specs.Prelude.{◌≡◌, ℕ, List, [], ◌∷◌, ◌++◌, map}
use Rattle.std.specs.List.{All}
use Rattle.step_table.specs.declared.entry.Entry.{Entry}
use Rattle.step_table.specs.declared.place.Place.{Place}
use Rattle.step_table.specs.Journal.{Plain, plain_start, replay}
use Rattle.step_table.specs.Path.{GoesOn, all_told}
use Rattle.step_law_semaphores.specs.SemaPath.{SemaStride, SemaPath, placed}
use Rattle.sema_table.specs.Strides.{IsRow}
use Rattle.sema_table.specs.Setting.{layout}
use Rattle.sema_table.specs.Seats.{SeatModel}

-- what is seen now begins with what was seen before. Then come these entries in this order, among what others
-- told
abbrev pub TellsIn : List Entry → List Entry → List Entry → Type 0
TellsIn seen [] now = GoesOn now seen
TellsIn seen (e ∷ told) now = (others : List Entry) × TellsIn ((seen ++ others) ++ e ∷ []) told now

-- the seat went just these strides of the step table from this place on, each of which is such a one: one
-- path from the one sight to the other, which told these entries and no others
pub record Calls (IsOne : SemaStride → Type 0) (s : SeatModel) (from : Place) (t : SeatModel)
    (told : List Entry) : Type 0 where
  pub strides : List SemaStride
  pub each : All IsOne strides
  pub path : SemaPath (layout s.table.setting) s.number (placed from s.sight) strides t.sight
  pub all : t.strides ≡ s.strides ++ strides
  pub told_is : all_told strides ≡ told
  pub seen : TellsIn s.sight.seen told t.sight.seen

-- it ran rows, and nothing else
abbrev pub RunsRows : SeatModel → Place → SeatModel → List Entry → Type 0
RunsRows = Calls IsRow

-- each row with what it read
abbrev pub rows_of : List SemaStride → List (Place × ℕ)
rows_of strides = map (λ p. (p.stood.place, p.read)) strides

-- a call that ran just these rows, and each read this
pub record CallsRows (s : SeatModel) (from : Place) (t : SeatModel) (told : List Entry)
    (rows : List (Place × ℕ)) : Type 0 where
  pub call : RunsRows s from t told
  pub rows_are : rows_of call.strides ≡ rows

-- the counters' numbers and lists after all that the seat has seen
abbrev pub plain_seen : SeatModel → Plain
plain_seen s = replay (plain_start (layout s.table.setting).starts) s.sight.seen

-- the seat stands here
abbrev pub IsAt : SeatModel → Place → Type 0
IsAt s place = s.sight.stands.place ≡ place

-- it stands as it stood, but here
abbrev pub ComesTo : SeatModel → Place → SeatModel → Type 0
ComesTo s place t = t.sight.stands ≡ record s.sight.stands { place = place }
