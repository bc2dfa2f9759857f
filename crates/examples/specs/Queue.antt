-- What the calls of a bounded queue promise.
use Rattle.std.specs.Prelude.{◌≡◌, ℕ, ◌+◌, ◌-◌, ◌^◌, ◌≤◌, false, Ok, List, [], ◌∷◌, length}
use Rattle.std.specs.List.{All}
use Rattle.atomic_table.specs.Seated.{TableId}
use Rattle.sync_parts.specs.Entry.{Entry}
use Rattle.sync_parts.specs.Balances.{added_on, taken_on}
use Rattle.sync_parts.specs.Wake.{Wake}
use Rattle.sync_parts.specs.SetupError.{SetupError}
use Rattle.sync_parts.specs.SetupError.TheVariants.{Seats, NoMemory}
use Rattle.sync_parts.specs.TableSeats.{SeatModel}
use Rattle.sync_parts.specs.TableMaking.{IsFromOne, IsOutside, new_seats}
use Rattle.sync_parts.specs.TableCallers.{AcquiresUnit}
use Rattle.sync_parts.specs.CallersReleasing.{ReleasesUnit}
use Rattle.examples.specs.Moves.{moves, all_parts, times, with_put, with_taken, together}
use Rattle.examples.specs.Parts.{QueueModel, WorkerModel, TallyModel}

-- the counter of the free places, which started at their number, and that of the items, which started at 0
abbrev pub free : ℕ
free = 0

abbrev pub full : ℕ
full = 1

-- far fewer than the tally has parts
abbrev pub most_workers : ℕ
most_workers = 256

-- an empty queue of so many places, with a new seat for each worker, which may put and take 2^40 times, and
-- no other seat. The tally has all parts, and nobody has put or taken
pub record IsNew (places workers : ℕ) (q : QueueModel) (seats : List SeatModel) (t : TallyModel)
    : Type 0 where
  pub places_are : q.places ≡ places
  pub starts : q.table.setting.starts ≡ places ∷ 0 ∷ []
  pub own : All (λ s. s.table ≡ q.table) seats
  pub allowed : IsFromOne most_workers workers
  pub workers_are : q.table.setting.seats ≡ workers
  pub seats_are : seats ≡ new_seats q.table 0 workers
  pub limit : q.table.setting.limit ≡ 2 ^ 40
  pub tally : t ≡ record { ring = q.ring; moves = moves all_parts [] [] }

-- there are not 1 to 256 workers; and there is no memory for a queue only where there are
abbrev pub IsRefused : ℕ → SetupError → Type 0
IsRefused workers Seats = IsOutside most_workers workers
IsRefused workers NoMemory = IsFromOne most_workers workers
IsRefused workers _ = ⊥

abbrev pub new_worker : SeatModel → TableId → WorkerModel
new_worker s ring = record { seat = s; ring = ring; moves = moves 1 [] [] }

-- the tally after a worker has come, who has one of its parts, and after one has gone, with all that it has
-- put and taken
abbrev pub after_entry : TallyModel → TallyModel
after_entry t = record t { moves = record t.moves { parts = t.moves.parts - 1 } }

abbrev pub after_leave : TallyModel → WorkerModel → TallyModel
after_leave t w = record t { moves = together t.moves w.moves }

-- it is a worker of this queue
abbrev pub IsOf : QueueModel → WorkerModel → Type 0
IsOf q w = (w.seat.table ≡ q.table) × (w.ring ≡ q.ring)

-- the seat took a unit of the one counter, and added one to the other
pub record Exchanges (s : SeatModel) (takes adds : ℕ) (t : SeatModel) : Type 0 where
  pub claimed : SeatModel
  pub acquired : AcquiresUnit s takes false claimed
  pub wake : Wake
  pub released : ReleasesUnit claimed adds false (Ok (t, wake))

-- what has come of both counters, in what was seen: no more places are claimed than there are, and no more
-- items than came
pub record InBounds (q : QueueModel) (seen : List Entry) : Type 0 where
  pub places : taken_on free seen ≤ q.places + added_on free seen
  pub items : taken_on full seen ≤ added_on full seen

-- a free place was claimed, the item was put, and there is one item more to take
pub record HasPut (q : QueueModel) (w : WorkerModel) (item : ℕ) (v : WorkerModel) : Type 0 where
  pub own : IsOf q v
  pub counters : Exchanges w.seat free full v.seat
  pub bounds : InBounds q v.seat.sight.seen
  pub put : v.moves ≡ with_put w.moves item

-- an item was claimed and taken, and there is one free place more
pub record HasTaken (q : QueueModel) (w : WorkerModel) (item : ℕ) (v : WorkerModel) : Type 0 where
  pub own : IsOf q v
  pub counters : Exchanges w.seat full free v.seat
  pub bounds : InBounds q v.seat.sight.seen
  pub taken : v.moves ≡ with_taken w.moves item

-- n items are left, no more than there are places. Each item was taken or is left as often as it was put, and
-- all of them together are as many as were put
pub record AreLeftOf (q : QueueModel) (t : TallyModel) (n : ℕ) : Type 0 where
  pub left : List ℕ
  pub count : length left ≡ n
  pub few : n ≤ q.places
  pub each : (x : ℕ) → times x t.moves.put ≡ times x t.moves.taken + times x left
  pub sum : length t.moves.put ≡ length t.moves.taken + n
