-- What the calls of one step each promise, and a try, which is of two.
use Rattle.std.specs.Prelude.{◌≡◌, ◌≢◌, ℕ, ◌+◌, ◌-◌, ◌⊎◌, false, [], ◌∷◌, ◌++◌, length}
use Rattle.step_table.specs.declared.entry.Entry.TheVariants.{Add, Take}
use Rattle.step_table.specs.declared.place.AcquireRow.{AcquireRow}
use Rattle.step_table.specs.declared.place.AcquireRow.TheVariants.{A1, A2, A3}
use Rattle.step_table.specs.declared.place.ReleaseRow.{ReleaseRow}
use Rattle.step_table.specs.declared.place.ReleaseRow.TheVariants.{R1, R2, R3}
use Rattle.step_table.specs.declared.place.Place.{Place}
use Rattle.step_table.specs.declared.place.Place.TheVariants.{Rest, Acquiring, Releasing}
use Rattle.step_table.specs.declared.word.Word.{Word}
use Rattle.step_table.specs.declared.word.Word.TheVariants.{Counter, Lock, Waiters}
use Rattle.step_table.specs.Path.{GoesOn, looks}
use Rattle.step_table.specs.Counting.{total, on}
use Rattle.step_law_semaphores.specs.SemaPath.{SemaStride, SemaRan}
use Rattle.sema_table.specs.declared.answers.Tried.{Tried}
use Rattle.sema_table.specs.declared.answers.Tried.TheVariants.{Taken, Zero, Lost}
use Rattle.sema_table.specs.declared.answers.Posted.{Posted}
use Rattle.sema_table.specs.declared.answers.Posted.TheVariants.{Done, Owes}
use Rattle.sema_table.specs.Setting.{root, layout}
use Rattle.sema_table.specs.Seats.{SeatModel}
use Rattle.sema_table.specs.Calls.{CallsRows, plain_seen, ComesTo}

-- an acquire of c without lifo, and a release of c without handoff, before this row
abbrev pub acquiring : ℕ → AcquireRow → Place
acquiring c row = Acquiring (record { counter = c; lifo = false }) row

abbrev pub releasing : ℕ → ReleaseRow → Place
releasing c row = Releasing (record { counter = c; handoff = false }) row

-- nothing but a look: the seat stands as it stood, and has seen all that was told up to the look, which read
-- n
pub record LooksAt (s : SeatModel) (w : Word) (n : ℕ) (t : SeatModel) : Type 0 where
  pub same : t ≡ record s { sight = t.sight; strides = t.strides }
  pub stride : SemaStride
  pub ran : SemaRan (layout s.table.setting) s.number s.sight stride t.sight
  pub did : stride.deed ≡ looks w
  pub read : stride.read ≡ n
  pub one : t.strides ≡ s.strides ++ stride ∷ []
  pub stays : t.sight.stands ≡ s.sight.stands
  pub later : GoesOn t.sight.seen s.sight.seen

-- nothing but a look, which found the lock of c's root held
abbrev pub FindsHeld : SeatModel → ℕ → SeatModel → Type 0
FindsHeld s c t = (n : ℕ) × (n ≢ 0) × LooksAt s (Lock (root s.table.setting c)) n t

-- n is the number of the counter after all that is seen now
pub record IsValue (s : SeatModel) (c n : ℕ) (t : SeatModel) : Type 0 where
  pub looked : LooksAt s (Counter c) n t
  pub number : n ≡ (plain_seen t).numbers c

-- how many waits are queued on all counters of the root r, after all that is seen
abbrev pub waits_seen : SeatModel → ℕ → ℕ
waits_seen s r = let z = s.table.setting in
    total (length z.starts) (λ c. on (root z c) r (length ((plain_seen s).lists c)))

-- n is the number of the waits at the counter's root after all that is seen now, or one more
pub record IsWaiters (s : SeatModel) (c n : ℕ) (t : SeatModel) : Type 0 where
  pub looked : LooksAt s (Waiters (root s.table.setting c)) n t
  pub near : (n ≡ waits_seen t (root s.table.setting c)) ⊎ (n ≡ waits_seen t (root s.table.setting c) + 1)

-- the rows of one try: A1, and A2 where A1 read more than 0. A unit is taken exactly where A2 found what A1
-- read
abbrev pub IsTried : SeatModel → ℕ → Tried → SeatModel → Type 0
IsTried s c Zero t =
    (t ≡ record s { sight = t.sight; strides = t.strides }) × ComesTo s (acquiring c A3) t
    × CallsRows s (acquiring c A1) t [] ((acquiring c A1, 0) ∷ [])
    × ((plain_seen t).numbers c ≡ 0)
IsTried s c Lost t =
    (t ≡ record s { sight = t.sight; strides = t.strides }) × ComesTo s (acquiring c A1) t
    × ((left n : ℕ) × (n ≢ left + 1)
    × CallsRows s (acquiring c A1) t [] ((acquiring c A1, left + 1) ∷ (acquiring c (A2 left), n) ∷ []))
IsTried s c Taken t =
    (t ≡ record s { taken = s.taken + 1; sight = t.sight; strides = t.strides }) × ComesTo s Rest t
    × ((left : ℕ)
    × CallsRows s (acquiring c A1) t (Take c s.number ∷ [])
    ((acquiring c A1, left + 1) ∷ (acquiring c (A2 left), left + 1) ∷ []))

-- a unit was added. Then the waiter word read 0, and the release has ended, or it read more, and the release
-- goes to the lock
abbrev pub IsPosted : SeatModel → ℕ → Posted → Type 0
IsPosted s c (Done t) =
    (t ≡ record s { left = s.left - 1; sight = t.sight; strides = t.strides }) × ComesTo s Rest t
    × ((n : ℕ) × CallsRows s (releasing c R1) t (Add c s.number ∷ [])
    ((releasing c R1, n) ∷ (releasing c R2, 0) ∷ []))
IsPosted s c (Owes t) =
    (t ≡ record s { left = s.left - 1; sight = t.sight; strides = t.strides }) × ComesTo s (releasing c R3) t
    × ((n waits : ℕ)
    × CallsRows s (releasing c R1) t (Add c s.number ∷ [])
    ((releasing c R1, n) ∷ (releasing c R2, waits + 1) ∷ []))
