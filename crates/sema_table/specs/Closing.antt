-- What a closed table tells.
use Rattle.std.specs.Prelude.{◌≡◌, ℕ, true, ◌+◌, ◌<◌, List, [], ◌∷◌, length, slice_index}
use Rattle.std.specs.List.{All}
use Rattle.step_table.specs.World.{SemaWorld}
use Rattle.step_table.specs.Steps.{IsReached}
use Rattle.step_table.specs.Path.{GoesOn, own_entries}
use Rattle.step_table.specs.Counting.{total}
use Rattle.step_table.specs.Journal.{plain_start, replay}
use Rattle.step_law_semaphores.specs.Lawful.{IsLawfulWorld, added}
use Rattle.step_law_semaphores.specs.Balances.{taken, added_by}
use Rattle.step_law_semaphores.specs.Bounds.{AllRest, IsCleared}
use Rattle.step_law_semaphores.specs.Entries.{IsNamed}
use Rattle.step_law_semaphores.specs.SemaPath.{SemaStride, semaphores}
use Rattle.sema_table.specs.declared.view.Setting.{Setting}
use Rattle.running_rows.specs.History.{SeatStride, Writes, strides_of}
use Rattle.running_rows.specs.Rule.{In}
use Rattle.sema_table.specs.Places.{is_free}
use Rattle.sema_table.specs.Setting.{layout}
use Rattle.sema_table.specs.Rows.{SemaSeat, semaphore_rows}
use Rattle.sema_table.specs.Seats.{TableModel, SeatModel, Token, table_of}

-- how many units were added by these seats, and how many were given to them
abbrev pub sum_by : (SeatModel → ℕ) → List SeatModel → ℕ
sum_by f [] = 0
sum_by f (s ∷ seats) = f s + sum_by f seats

abbrev pub has_added : SeatModel → ℕ
has_added s = added_by s.number s.sight.seen

abbrev pub was_given : SeatModel → ℕ
was_given s = s.taken

-- what a view has of this seat, which may begin a call
pub record IsOfSeat (z : Setting) (g : SemaSeat) (s : SeatModel) : Type 0 where
  pub number_is : g.number ≡ s.number
  pub free : is_free g.knows.place ≡ true
  pub given : g.knows.taken ≡ s.taken
  pub seen : g.knows.seen ≡ s.sight.seen
  pub went : g.gone ≡ s.strides

-- what a view has of these seats, in their order
abbrev pub AreOfSeats : Setting → List SemaSeat → List SeatModel → Type 0
AreOfSeats z [] [] = Unit {0}
AreOfSeats z (g ∷ gs) (s ∷ ss) = IsOfSeat z g s × AreOfSeats z gs ss
AreOfSeats z _ _ = ⊥

-- a token of this table has these seats in its view, which have added so many units and were given so many
pub record IsGathered (t : TableModel) (seats : List SeatModel) (token : Token) (releases acquires : ℕ)
    : Type 0 where
  pub own : table_of token ≡ t
  pub all : AreOfSeats t.setting (token.me.0.own ∷ token.me.0.guests) seats
  pub releases_are : releases ≡ sum_by has_added seats
  pub acquires_are : acquires ≡ sum_by was_given seats

-- the counters' numbers, in their order, and how many units were added and taken
pub record ClosedModel : Type 0 where
  pub values : List ℕ
  pub releases : ℕ
  pub acquires : ℕ

-- these are all seats of the table: each is one of its seats, and they are as many. None can come twice,
-- since none can be copied
pub record AreAll (t : TableModel) (seats : List SeatModel) : Type 0 where
  pub own : All (λ s. s.table ≡ t) seats
  pub count : length seats ≡ t.setting.seats

-- there is one journal, in a lawful world in which all rest. Each seat of the table is one of these, and has
-- seen a beginning of the journal with all entries that it alone can tell; the journal names seats and
-- counters that are there. The strides that the seats went told it, one after the other: each entry was told
-- by one stride of one of them. The values are those that it tells, and no wait is queued any more. The units
-- that the seats added are those that it tells, and so are those that they were given. What is there and what
-- was given are what was there at the start and what was added
pub record IsClosed (z : Setting) (seats : List SeatModel) (c : ClosedModel) : Type 0 where
  pub world : SemaWorld
  pub reached : IsReached (layout z) world
  pub lawful : IsLawfulWorld (layout z) world
  pub rest : AllRest (layout z) world
  pub cleared : IsCleared (layout z) world
  pub named : All (IsNamed (layout z)) world.journal
  pub each : (k : ℕ) → k < z.seats → (s : SeatModel) × In s seats × (s.number ≡ k)
  pub begins : (s : SeatModel) → In s seats → GoesOn world.journal s.sight.seen
  pub own : (s : SeatModel) → In s seats
      → own_entries (semaphores (layout z)) s.number world.journal
      ≡ own_entries (semaphores (layout z)) s.number s.sight.seen
  pub history : List (SeatStride SemaStride)
  pub writes : Writes semaphore_rows [] history world.journal
  pub by_seats : (m : SeatStride SemaStride) → In m history → m.seat < z.seats
  pub went : (s : SeatModel) → In s seats → strides_of s.number history ≡ s.strides
  pub long : length c.values ≡ length z.starts
  pub values : (k : ℕ) → k < length z.starts
      → slice_index c.values k ≡ (replay (plain_start (layout z).starts) world.journal).numbers k
  pub released : c.releases ≡ sum_by has_added seats
  pub added_all : c.releases ≡ added world.journal
  pub acquired : c.acquires ≡ sum_by was_given seats
  pub taken_all : c.acquires ≡ taken world.journal
  pub balanced : total (length z.starts) (slice_index c.values) + c.acquires
      ≡ total (length z.starts) (layout z).starts + c.releases
