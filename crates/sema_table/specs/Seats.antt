-- What a caller sees of a table and of a seat, and what a seat keeps of its token.
use Rattle.std.specs.Prelude.{◌≡◌, ℕ, ◌+◌, ◌^◌, ◌≤◌, ◌<◌, List, [], length, true, false}
use Rattle.running_rows.specs.Seated.{TableId}
use Rattle.running_rows.specs.Words as words
use Rattle.waiters.specs.declared.wait.WaitId.{WaitId}
use Rattle.step_table.specs.declared.place.Acquire.{Acquire}
use Rattle.step_table.specs.declared.place.AcquireRow.TheVariants.{Parked, A10}
use Rattle.step_table.specs.declared.place.ParkedRow.TheVariants.{P}
use Rattle.step_table.specs.declared.place.ReleaseRow.TheVariants.{R3}
use Rattle.step_table.specs.declared.place.Place.{Place}
use Rattle.step_table.specs.declared.place.Place.TheVariants.{Acquiring, Releasing}
use Rattle.step_table.specs.Journal.{takes}
use Rattle.step_law_semaphores.specs.Balances.{withdrawn_by}
use Rattle.step_law_semaphores.specs.SemaPath.{SemaSight, SemaStride}
use Rattle.sema_table.specs.declared.view.Known.{Known}
use Rattle.sema_table.specs.declared.view.Record.{Record}
use Rattle.sema_table.specs.declared.view.Setting.{Setting}
use Rattle.sema_table.specs.declared.seat.Numbers.{Numbers}
use Rattle.sema_table.specs.Places.{is_free}
use Rattle.sema_table.specs.Changes.{spent_by}
use Rattle.sema_table.specs.Rule.{sight_by}

-- a table: its name, and what it was made with
pub record TableModel : Type 0 where
  pub id : TableId
  pub setting : Setting

-- a seat: its table, its number, how many units more it may spend, how many it was given, how it stands, what
-- it has seen, and the strides that it has gone
pub record SeatModel : Type 0 where
  pub table : TableModel
  pub number : ℕ
  pub left : ℕ
  pub taken : ℕ
  pub sight : SemaSight
  pub strides : List SemaStride

abbrev pub Token : Type 0
Token = words.Token Record Known SemaStride

abbrev pub table_of : Token → TableModel
table_of t = record { id = t.table_id; setting = t.me.0.own.knows.setting }

abbrev pub seat_of : Token → Numbers → SeatModel
seat_of t n = record {
  table = table_of t;
  number = n.seat;
  left = n.left;
  taken = n.taken;
  sight = sight_by t.me.0.own.knows;
  strides = t.me.0.own.gone;
}

-- what a seat's numbers say of its token: it holds no slot and has no wait in hand, has queued so many waits,
-- may spend so many units more, has withdrawn so many waits, and has come by so many units
pub record IsToken (t : Token) (n : Numbers) : Type 0 where
  pub bare : t.me.1 ≡ []
  pub number_is : t.me.0.own.number ≡ n.seat
  pub there : n.seat < t.me.0.own.knows.setting.seats
  pub narrow : n.seat < 2 ^ 16
  pub left_is : n.left + spent_by t.me.0.own.number t.me.0.own.knows.seen ≡ t.me.0.own.knows.setting.limit
  pub withdrawn_is : n.withdrawn ≡ withdrawn_by t.me.0.own.number t.me.0.own.knows.seen
  pub limited : t.me.0.own.knows.setting.limit ≤ 2 ^ 54
  pub turns_are : t.me.0.own.knows.turn ≡ n.turns
  pub few : n.turns ≤ 2 ^ 62 + 2 ^ 16
  pub taken_is : t.me.0.own.knows.taken ≡ n.taken
  pub most : n.taken ≤ 2 ^ 62 + 2 ^ 48
  pub empty : t.me.0.own.knows.hand ≡ []

-- a seat that may begin a call. All units that it has seen taken for it are those that it has come by
pub record IsSeat (t : Token) (n : Numbers) : Type 0 where
  pub token_is : IsToken t n
  pub free : is_free t.me.0.own.knows.place ≡ true
  pub counted : takes t.me.0.own.number t.me.0.own.knows.seen ≡ t.me.0.own.knows.taken

-- a seat whose call is on a counter of its table, and stands here
pub record IsMidway (t : Token) (n : Numbers) (c : ℕ) (place : Place) : Type 0 where
  pub token_is : IsToken t n
  pub inside : c < length t.me.0.own.knows.setting.starts
  pub at : t.me.0.own.knows.place ≡ place

abbrev pub IsOwing : Token → Numbers → ℕ → Type 0
IsOwing t n c = IsMidway t n c (Releasing (record { counter = c; handoff = false }) R3)

abbrev pub IsSleeping : Token → Numbers → Acquire → ℕ → Type 0
IsSleeping t n a turn = IsMidway t n a.counter (Acquiring a (Parked turn P))

abbrev pub IsWoken : Token → Numbers → Acquire → Type 0
IsWoken t n a = IsMidway t n a.counter (Acquiring a A10)

-- the seat is parked, and this is its wait
abbrev pub IsWaitOf : SeatModel → WaitId → Type 0
IsWaitOf s w = (w.seat ≡ s.number) × ((a : Acquire) × (s.sight.stands.place ≡ Acquiring a (Parked w.turn P)))
