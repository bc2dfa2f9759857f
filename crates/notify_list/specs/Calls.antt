-- What a call of one seat is to its caller: the rows that it ran, the entries that it told, and what it has
-- seen then.
use Rattle.std.specs.Prelude.{◌≡◌, ℕ, ◌≤◌, List, [], ◌∷◌, ◌++◌, map}
use Rattle.std.specs.List.{All}
use Rattle.step_table.specs.declared.list_place.ListPlace.{ListPlace}
use Rattle.step_table.specs.ListWorld.{Numbers, ListSeat, ListEntry}
use Rattle.step_table.specs.Path.{GoesOn, runs, all_told}
use Rattle.step_law_lists.specs.ListLawful.{told, IsInReach}
use Rattle.step_law_lists.specs.ListPath.{ListStride, ListPath}
use Rattle.notify_list.specs.Seats.{SeatModel}

-- what is seen now begins with what was seen before. Then come these entries in this order, among what others
-- told
abbrev pub TellsIn : List ListEntry → List ListEntry → List ListEntry → Type 0
TellsIn seen [] now = GoesOn now seen
TellsIn seen (e ∷ entries) now = (others : List ListEntry) × TellsIn ((seen ++ others) ++ e ∷ []) entries now

-- each is a row that ran, and no look
abbrev pub AreRows : List ListStride → Type 0
AreRows strides = All (λ p. p.deed ≡ runs) strides

-- each row with what it read
abbrev pub rows_of : List ListStride → List (ListPlace × ℕ)
rows_of strides = map (λ p. (p.stood.place, p.read)) strides

-- the seat, standing so at first, ran just these rows of the step table, each of which read this: one path
-- from the one sight to the other, which told these entries and no others. It did nothing else meanwhile. What
-- it has seen is a journal of which the laws speak
pub record Calls (s : SeatModel) (begun : ListSeat) (t : SeatModel) (entries : List ListEntry)
    (rows : List (ListPlace × ℕ))
    : Type 0 where
  pub strides : List ListStride
  pub path : ListPath s.list.setting.first s.list.setting.seats s.number
      (record { stands = begun; seen = s.sight.seen }) strides t.sight
  pub ran : AreRows strides
  pub rows_are : rows_of strides ≡ rows
  pub told_is : all_told strides ≡ entries
  pub all : t.strides ≡ s.strides ++ strides
  pub seen : TellsIn s.sight.seen entries t.sight.seen
  pub reach : IsInReach t.sight.seen

-- the seat stands so after the call, and nothing else of it has changed but what it has seen and done
pub record ComesTo (s : SeatModel) (stands : ListSeat) (t : SeatModel) : Type 0 where
  pub same : t ≡ record s { sight = t.sight; strides = t.strides }
  pub stands_is : t.sight.stands ≡ stands

-- how many tickets were handed out, and the first that is neither granted nor gone, as the seat has seen it
abbrev pub numbers_seen : SeatModel → Numbers
numbers_seen s = told s.sight.seen

-- every ticket that was handed out in what the seat had seen before is passed in what it has seen now:
-- granted, or its seat has left
abbrev pub AllGranted : SeatModel → SeatModel → Type 0
AllGranted before now = (numbers_seen before).handed ≤ (numbers_seen now).passed
