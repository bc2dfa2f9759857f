-- What rows of one call do to the token of a seat.
use Rattle.std.specs.Prelude.{◌≡◌, ◌≢◌, ◌⊎◌, ℕ, ◌<◌, Bool, false, List, [], ◌∷◌, ◌++◌, ℤ, pos, Result}
use Rattle.step_table.specs.declared.group_word.GroupWord.{GroupWord}
use Rattle.step_table.specs.declared.misuse.Misuse.{Misuse}
use Rattle.step_table.specs.declared.standing.GroupRow.{GroupRow}
use Rattle.step_table.specs.declared.standing.GroupRow.TheVariants.{G1, V1, V4, V5}
use Rattle.step_table.specs.declared.standing.GroupNext.{GroupNext}
use Rattle.step_table.specs.declared.standing.GroupNext.TheVariants.{Ends, Acquires, SleepsOn, Withdraws}
use Rattle.step_table.specs.declared.standing.Ending.TheVariants.{NextCall}
use Rattle.step_table.specs.Group.{plus}
use Rattle.sema_table.specs.Seats.{SeatModel}
use Rattle.sema_table.specs.Callers.{AcquiresUnit}
use Rattle.sema_table.specs.CallersTimed.{GivesUpHolding}
use Rattle.sync_parts.specs.declared.group_view.GroupStep.{GroupStep}
use Rattle.sync_parts.specs.GroupPlays.{Token, Steps, step, given_up}
use Rattle.sync_parts.specs.GroupSeats.{GroupSeatModel, group_seat_of}
use Rattle.sync_parts.specs.GroupCallers.{AddsToGroup}
use Rattle.sync_parts.specs.GroupCalls.{Walks, IsAdded, IsWaited, IsWaitedInTime}

-- these rows ran, one path from this row on, whichever number the seat has, and led here
pub record Walked (s : Token) (row : GroupRow) (steps : List GroupStep) (next : GroupNext) (t : Token)
    : Type 0 where
  pub table_is : t.table_id ≡ s.table_id
  pub number_is : t.me.0.own.number ≡ s.me.0.own.number
  pub seats_is : t.me.0.own.knows.seats ≡ s.me.0.own.knows.seats
  pub steps_are : t.me.0.own.gone ≡ s.me.0.own.gone ++ steps
  pub next_is : t.me.0.own.knows.next ≡ next
  pub path : (number : ℕ) → Walks number row steps next

-- a wait was counted, from this row on
abbrev pub GetsCounted : Token → GroupRow → Token → Type 0
GetsCounted s row t = (steps : List GroupStep) × Walked s row steps (Acquires NextCall) t

-- a wait found counter 0, from this row on
abbrev pub FindsZero : Token → GroupRow → Token → Type 0
FindsZero s row t =
    (before : List GroupStep) × (word : GroupWord) × (word.counter ≡ pos 0)
    × Walked s row (before ++ step (V1 NextCall) word ∷ []) Ends t

-- the whole wait, whose first look found this word, which isn't zero
abbrev pub Waits : Token → SeatModel → GroupWord → GroupSeatModel → Result (Unit {0}) Misuse → Type 0
Waits t sema word u answer =
    (s : Token) → word.counter ≢ pos 0 → Steps s (V1 NextCall) word t → IsWaited (group_seat_of s sema) u answer

-- the whole add, whichever word its first row found that left this one
abbrev pub Settles : Token → SeatModel → ℤ → GroupWord → GroupSeatModel → Result ℕ Misuse → Type 0
Settles t sema d left u answer =
    (s : Token) → (found : GroupWord) → left ≡ plus found d → Steps s (G1 d) found t
    → IsAdded (group_seat_of s sema) d u answer × AddsToGroup (group_seat_of s sema) d u answer

-- a wait that was counted is counted no more, by V5 from the word that V4 found last
abbrev pub GetsUncounted : Token → Token → Type 0
GetsUncounted s t =
    (looks : List GroupStep) × (word : GroupWord) × ((word.counter ≢ pos 0) × (0 < word.waits))
    × Walked s (V4 given_up) (looks ++ step (V5 given_up word) word ∷ []) (Withdraws given_up) t

-- or it stays counted
abbrev pub StaysCounted : Token → Token → Type 0
StaysCounted s t = (looks : List GroupStep) × Walked s (V4 given_up) looks (SleepsOn given_up) t

-- a wait that was counted, and has a unit: its seat never gave up, or stayed counted
pub record IsToLookLast (s : Token) (a : SeatModel) (t : Token) (b : SeatModel) : Type 0 where
  pub before : List GroupStep
  pub looks : List GroupStep
  pub table_is : t.table_id ≡ s.table_id
  pub number_is : t.me.0.own.number ≡ s.me.0.own.number
  pub seats_is : t.me.0.own.knows.seats ≡ s.me.0.own.knows.seats
  pub steps_are : t.me.0.own.gone ≡ s.me.0.own.gone ++ (before ++ looks)
  pub path : (number : ℕ) → Walks number (V1 NextCall) before (Acquires NextCall)
  pub stayed :
      ((looks ≡ []) × (t.me.0.own.knows.next ≡ Acquires NextCall))
      ⊎ (((number : ℕ) → Walks number (V4 given_up) looks (SleepsOn given_up))
      × (t.me.0.own.knows.next ≡ SleepsOn given_up))
  pub acquired : AcquiresUnit a 0 false b
  pub numbers : s.me.0.own.number ≡ a.number

-- a wait that was counted, and gives up
pub record IsToTakeBack (s : Token) (a : SeatModel) (t : Token) (l : SeatModel) : Type 0 where
  pub counted : GetsCounted s (V1 NextCall) t
  pub holds : GivesUpHolding a 0 false l
  pub numbers : s.me.0.own.number ≡ a.number

-- the whole wait with a time-out
abbrev pub WaitsInTime : Token → SeatModel → GroupSeatModel → Result Bool Misuse → Type 0
WaitsInTime s a u answer = IsWaitedInTime (group_seat_of s a) u answer
