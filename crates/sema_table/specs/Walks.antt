-- What rows of one seat do to its token.
use Rattle.std.specs.Prelude.{◌≡◌, ◌≢◌, ℕ, Bool, true, false, drop, if◌then◌else◌, ◌+◌, ◌^◌, ◌<◌, ◌≤◌, List, []}
use Rattle.std.specs.Prelude.{◌∷◌, ◌++◌, length}
use Rattle.std.specs.List.{All}
use Rattle.waiters.specs.declared.wait.WaitId.{WaitId}
use Rattle.step_table.specs.declared.entry.Entry.{Entry}
use Rattle.step_table.specs.declared.entry.Entry.TheVariants.{Take}
use Rattle.step_table.specs.declared.place.Acquire.{Acquire}
use Rattle.step_table.specs.declared.place.AcquireRow.TheVariants.{Parked}
use Rattle.step_table.specs.declared.place.ParkedRow.TheVariants.{P, D2}
use Rattle.step_table.specs.declared.place.Release.{Release}
use Rattle.step_table.specs.declared.place.ReleaseRow.TheVariants.{R5, R6, R7, R9, R10}
use Rattle.step_table.specs.declared.place.Place.{Place}
use Rattle.step_table.specs.declared.word.Word.TheVariants.{Lock}
use Rattle.step_table.specs.declared.place.Place.TheVariants.{Rest, Acquiring, Releasing}
use Rattle.step_table.specs.Event.{by_first}
use Rattle.step_table.specs.World.{SeatState}
use Rattle.step_table.specs.Counting.{total, on, counter_at}
use Rattle.step_table.specs.Journal.{takes}
use Rattle.step_table.specs.Path.{runs, looks, all_told}
use Rattle.step_law_semaphores.specs.SemaPath.{SemaStride, SemaPath, placed}
use Rattle.sema_root.specs.Treap.{Treap}
use Rattle.sema_table.specs.declared.view.Record.TheVariants.{Root}
use Rattle.sema_table.specs.Strides.{IsRow}
use Rattle.sema_table.specs.Setting.{root, layout}
use Rattle.sema_table.specs.Places.{Begins, is_free, takes_lock, locked}
use Rattle.sema_table.specs.Changes.{HasChanged, spent_by}
use Rattle.sema_table.specs.Rule.{stands_by, sight_by, lists_by, IsRecord}
use Rattle.running_rows.specs.Strides.{here, Went as Strode}
use Rattle.sema_table.specs.Rows.{semaphore_rows}
use Rattle.sema_table.specs.Seats.{TableModel, Token, table_of}

-- a seat of this table stands at this place, on a counter of the table
pub record Stands (t : TableModel) (s : Token) (place : Place) : Type 0 where
  pub table_is : table_of s ≡ t
  pub inside : counter_at place < length t.setting.starts
  pub place_is : s.me.0.own.knows.place ≡ place
  pub limited : spent_by s.me.0.own.number s.me.0.own.knows.seen ≤ s.me.0.own.knows.setting.limit
  pub few : s.me.0.own.knows.turn ≤ 2 ^ 62 + 2 ^ 16
  pub most : s.me.0.own.knows.taken ≤ 2 ^ 62 + 2 ^ 48

-- the seat may spend so much more
abbrev pub CanSpend : Token → ℕ → Type 0
CanSpend s n = spent_by s.me.0.own.number s.me.0.own.knows.seen + n ≤ s.me.0.own.knows.setting.limit

-- nothing has come of it
abbrev pub IsSame : Token → Token → Type 0
IsSame s t = (t.table_id ≡ s.table_id) × (t.me ≡ s.me)

-- a seat of this table may run a row at this place that takes a lock, and holds no slot
pub record Starts (t : TableModel) (s : Token) (place : Place) : Type 0 where
  pub table_is : table_of s ≡ t
  pub inside : counter_at place < length t.setting.starts
  pub begins : Begins (length t.setting.starts) s.me.0.own.knows.place place
  pub limited : spent_by s.me.0.own.number s.me.0.own.knows.seen ≤ s.me.0.own.knows.setting.limit
  pub bare : s.me.1 ≡ []
  pub takes : takes_lock place ≡ true

-- such strides were gone from this place on, which told these entries, and by which the seat came by so many
-- units; it stands so
pub record Went (IsOne : SemaStride → Type 0) (s : Token) (from : Place) (t : Token) (stands : SeatState)
    (told : List Entry)
    (gained : ℕ) : Type 0 where
  pub table_is : table_of t ≡ table_of s
  pub number_is : t.me.0.own.number ≡ s.me.0.own.number
  pub stands_is : stands_by t.me.0.own.knows ≡ stands
  pub few : t.me.0.own.knows.turn ≤ 2 ^ 62 + 2 ^ 16
  pub came : t.me.0.own.knows.taken ≡ s.me.0.own.knows.taken + gained
  pub most : t.me.0.own.knows.taken ≤ 2 ^ 62 + 2 ^ 48
  pub counted : is_free stands.place ≡ true
      → takes t.me.0.own.number t.me.0.own.knows.seen ≡ t.me.0.own.knows.taken
  pub strides : List SemaStride
  pub each : All IsOne strides
  pub path : SemaPath (layout s.me.0.own.knows.setting) s.me.0.own.number
      (placed from (sight_by s.me.0.own.knows)) strides (sight_by t.me.0.own.knows)
  pub all : t.me.0.own.gone ≡ s.me.0.own.gone ++ strides
  pub told_is : all_told strides ≡ told

-- rows ran
abbrev pub Walked : Token → Place → Token → SeatState → List Entry → ℕ → Type 0
Walked = Went IsRow

-- the seat as it stood, at another place
abbrev pub moved_to : Token → Place → SeatState
moved_to s place = record (stands_by s.me.0.own.knows) { place = place }

-- the same where nothing was told, nothing was come by, and all but the place is as it was
abbrev pub Moves : Token → Place → Token → Place → Type 0
Moves s from t place = Walked s from t (moved_to s place) [] 0

-- and on the way units of c were added or taken
abbrev pub Changed : ℕ → Token → Token → Type 0
Changed c s t = HasChanged c s.me.0.own.knows.seen t.me.0.own.knows.seen

-- the seat holds no slot but the record of the root of c, which has the lists that it has seen
abbrev pub HasRecord : Token → ℕ → Type 0
HasRecord s c =
    let z = s.me.0.own.knows.setting in
    (treap : Treap) × (s.me.1 ≡ (root z c, Root treap) ∷ [])
    × IsRecord z (root z c) treap (lists_by z s.me.0.own.knows.seen)

-- the lists that the seat has seen
abbrev pub lists_of : Token → ℕ → List WaitId
lists_of s = lists_by s.me.0.own.knows.setting s.me.0.own.knows.seen

-- the record that the seat holds, of the root of c, has these lists now; nothing else has changed
abbrev pub Edited : Token → ℕ → (ℕ → List WaitId) → Token → Type 0
Edited s c lists t =
    let z = s.me.0.own.knows.setting in
    (t.table_id ≡ s.table_id)
    × ((treap : Treap) × (t.me ≡ (s.me.0, (root z c, Root treap) ∷ [])) × IsRecord z (root z c) treap lists)

-- where a seat goes that gives up and has the lock: its wait is in the list of its counter, or not
abbrev pub sought_own : Token → Acquire → ℕ → Place
sought_own s a turn = locked s.me.0.own.number (lists_of s) (Acquiring a (Parked turn D2))

-- the row ran that takes the lock, and the record came with it
abbrev pub Locked : Token → Place → Token → Type 0
Locked s place t =
    Walked s place t (moved_to s (locked s.me.0.own.number (lists_of t) place)) [] 0 × HasRecord t (counter_at place)

-- a look found the lock of the root of c held, and is a stride
pub record SawHeld (s : Token) (c : ℕ) (t : Token) : Type 0 where
  pub table_id : t.table_id ≡ s.table_id
  pub slots : t.me.1 ≡ s.me.1
  pub found : ℕ
  pub held : found ≢ 0
  pub looked : Strode semaphore_rows here (looks (Lock (root s.me.0.own.knows.setting c))) s.me.0.own found t.me.0.own

-- it stands here, and holds the record of the root of its call's counter
abbrev pub Holds : TableModel → Token → Place → Type 0
Holds t s place = Stands t s place × HasRecord s (counter_at place)

-- fewer wait at the root of c than there are seats
abbrev pub HasRoom : Token → ℕ → Type 0
HasRoom s c =
    let z = s.me.0.own.knows.setting in
    total (length z.starts)
    (λ d. on (root z d) (root z c) (length (lists_by z s.me.0.own.knows.seen d))) < z.seats

-- what the table says follows R4, where somebody waits at the root
abbrev pub sought : Token → Release → Place
sought s r = by_first (lists_by s.me.0.own.knows.setting s.me.0.own.knows.seen r.counter) (Releasing r R6)
    (λ w. Releasing r R5)

-- where a release goes with a wait in hand
abbrev pub trying : Release → Place
trying r = if r.handoff then Releasing r R7 else Releasing r R10

-- where a release goes that has given its lock back
abbrev pub unlocked : Token → Release → Place
unlocked s r = by_first s.me.0.own.knows.hand Rest (λ w. trying r)

-- how a seat stands whose wait was queued
abbrev pub parked : Token → Acquire → SeatState
parked s a = record {
  place = Acquiring a (Parked s.me.0.own.knows.turn P);
  turn = s.me.0.own.knows.turn + 1;
  hand = s.me.0.own.knows.hand;
}

-- the entry is the last that the seat has seen
abbrev pub IsLast : Token → Entry → Type 0
IsLast s e = (before : List Entry) × (s.me.0.own.knows.seen ≡ before ++ e ∷ [])

-- how a seat stands that has taken a wait out
abbrev pub taken_out : Token → Release → WaitId → SeatState
taken_out s r w =
    record { place = Releasing r R6; turn = s.me.0.own.knows.turn; hand = s.me.0.own.knows.hand ++ w ∷ [] }

-- the row that grants the wait in hand, with a unit or without
abbrev pub granting : Release → Bool → Place
granting r true = Releasing r R9
granting r false = Releasing r R10

-- how much it grants
abbrev pub grant_of : Bool → ℕ
grant_of true = 2
grant_of false = 1

-- what was told before it: the unit that was taken for the wait's seat
abbrev pub taken_for : Release → WaitId → Bool → List Entry
taken_for r w true = Take r.counter w.seat ∷ []
taken_for r w false = []

-- that row ran, and the seat is at rest without the wait
pub record Granted (s : Token) (from : Place) (t : Token) : Type 0 where
  pub walked : Walked s from t
      (record { place = Rest; turn = s.me.0.own.knows.turn; hand = drop 1 s.me.0.own.knows.hand }) [] 0
  pub stride : SemaStride
  pub strides_are : walked.strides ≡ stride ∷ []
  pub did : stride.deed ≡ runs
  pub stood : stride.stood ≡ moved_to s from
