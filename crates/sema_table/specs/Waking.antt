-- What the calls that sleep and wake promise.
use Rattle.std.specs.Prelude.{◌≡◌, ◌⊎◌, Bool, true, false, ℕ, ◌+◌, List, [], ◌∷◌, ◌++◌}
use Rattle.std.specs.List.{All}
use Rattle.waiters.specs.declared.wait.WaitId.{WaitId}
use Rattle.step_table.specs.declared.entry.Entry.{Entry}
use Rattle.step_table.specs.declared.entry.Entry.TheVariants.{Take, Queue, Leave}
use Rattle.step_table.specs.declared.place.Acquire.{Acquire}
use Rattle.step_table.specs.declared.place.Release.{Release}
use Rattle.step_table.specs.declared.place.AcquireRow.TheVariants.{A3, A10, Parked}
use Rattle.step_table.specs.declared.place.ParkedRow.TheVariants.{P}
use Rattle.step_table.specs.declared.place.ReleaseRow.TheVariants.{R3, R9, R10}
use Rattle.step_table.specs.declared.place.Place.{Place}
use Rattle.step_table.specs.declared.place.Place.TheVariants.{Rest, Acquiring, Releasing}
use Rattle.step_table.specs.declared.word.Word.TheVariants.{Grant}
use Rattle.step_table.specs.Journal.{HasItsUnit}
use Rattle.step_table.specs.Counting.{wait}
use Rattle.step_table.specs.Path.{runs, looks}
use Rattle.step_law_semaphores.specs.SemaPath.{SemaStride, row_event, word_of_stride}
use Rattle.sema_table.specs.Setting.{layout}
use Rattle.sema_table.specs.declared.answers.Entered.{Entered}
use Rattle.sema_table.specs.declared.answers.Entered.TheVariants.{Taken, Asleep}
use Rattle.sema_table.specs.declared.answers.Wake.{Wake}
use Rattle.sema_table.specs.declared.answers.Wake.TheVariants as woken
use Rattle.sema_table.specs.declared.answers.Retried.{Retried}
use Rattle.sema_table.specs.declared.answers.Retried.TheVariants as retried
use Rattle.sema_table.specs.declared.answers.Polled.{Polled}
use Rattle.sema_table.specs.declared.answers.Polled.TheVariants.{Still, Woken, Handed}
use Rattle.sema_table.specs.Seats.{SeatModel}
use Rattle.sema_table.specs.Strides.{IsRow}
use Rattle.sema_table.specs.Calls.{Calls, RunsRows, plain_seen, IsAt, ComesTo}
use Rattle.sema_table.specs.Tries.{releasing, LooksAt, FindsHeld}

abbrev pub acquire_of : ℕ → Bool → Acquire
acquire_of c lifo = record { counter = c; lifo = lifo }

-- the seat is parked, and its wait has the turn that was its next
abbrev pub Parks : SeatModel → Acquire → SeatModel → Type 0
Parks s a t =
    let was = s.sight.stands in
    t.sight.stands ≡ record { place = Acquiring a (Parked was.turn P); turn = was.turn + 1; hand = was.hand }

-- rows ran from this place on. A unit was taken, by the seat for itself; or the seat is parked, and its wait
-- is queued, at the end that it asked for: the last thing that it has seen
abbrev pub IsEntered : SeatModel → Acquire → Place → Entered → Type 0
IsEntered s a from (Taken t) =
    (t ≡ record s { taken = s.taken + 1; sight = t.sight; strides = t.strides }) × ComesTo s Rest t
    × RunsRows s from t (Take a.counter s.number ∷ [])
IsEntered s a from (Asleep t) =
    (t ≡ record s { sight = t.sight; strides = t.strides }) × Parks s a t
    × RunsRows s from t (Queue a.counter (wait s.number s.sight.stands.turn) a.lifo ∷ [])
    × ((before : List Entry)
    × (t.sight.seen ≡ before ++ Queue a.counter (wait s.number s.sight.stands.turn) a.lifo ∷ []))

-- the seat still owes a wake: it found the lock held that it has to take
abbrev pub StillOwes : SeatModel → SeatModel → Type 0
StillOwes s t = (c : ℕ) × IsAt s (releasing c R3) × FindsHeld s c t

-- the seat, which was parked, looked at its own grant word, and found nothing
pub record FindsNoGrant (i : ℕ) (p : SemaStride) : Type 0 where
  pub call : Acquire
  pub turn : ℕ
  pub parked : p.stood.place ≡ Acquiring call (Parked turn P)
  pub did : p.deed ≡ looks (Grant i)
  pub read : p.read ≡ 0

-- nothing but such looks: the seat stands as it stood
pub record OnlyLooks (s t : SeatModel) : Type 0 where
  pub same : t ≡ record s { sight = t.sight; strides = t.strides }
  pub stays : t.sight.stands ≡ s.sight.stands
  pub call : Calls (FindsNoGrant s.number) s s.sight.stands.place t []

-- it ran a row, or looked so
abbrev pub RunsOrWaits : ℕ → SemaStride → Type 0
RunsOrWaits i p = IsRow p ⊎ FindsNoGrant i p

-- it ran rows, and beside them there were only such looks
abbrev pub RunsAndSleeps : SeatModel → Place → SeatModel → List Entry → Type 0
RunsAndSleeps s = Calls (RunsOrWaits s.number) s

-- the row that takes the grant ran last, and found n; before it were these looks, which found nothing
pub record CallsGranted (s : SeatModel) (from : Place) (t : SeatModel) (before : List SemaStride) (n : ℕ)
    : Type 0 where
  pub call : RunsAndSleeps s from t []
  pub last : SemaStride
  pub strides_are : call.strides ≡ before ++ last ∷ []
  pub looked : All (FindsNoGrant s.number) before
  pub did : last.deed ≡ runs
  pub row : last.stood.place ≡ from
  pub found : last.read ≡ n

-- the parked seat found nothing granted at its look; or it was woken by a grant of 1, and has yet to try; or
-- it was handed a unit by a grant of 2, which was taken for it after its wait had left
abbrev pub IsPolled : SeatModel → Polled → Type 0
IsPolled s (Still t) =
    (a : Acquire) × (turn : ℕ) × IsAt s (Acquiring a (Parked turn P)) × LooksAt s (Grant s.number) 0 t
IsPolled s (Woken t) =
    (t ≡ record s { sight = t.sight; strides = t.strides })
    × ((a : Acquire) × (turn : ℕ) × IsAt s (Acquiring a (Parked turn P)) × ComesTo s (Acquiring a A10) t
    × CallsGranted s (Acquiring a (Parked turn P)) t [] 1)
IsPolled s (Handed t) =
    (t ≡ record s { taken = s.taken + 1; sight = t.sight; strides = t.strides }) × ComesTo s Rest t
    × ((a : Acquire) × (turn : ℕ) × IsAt s (Acquiring a (Parked turn P))
    × CallsGranted s (Acquiring a (Parked turn P)) t [] 2
    × HasItsUnit a.counter (wait s.number turn) t.sight.seen)

-- the seat tried first, as one that was woken
abbrev pub IsRetried : SeatModel → Entered → Type 0
IsRetried s entered = (a : Acquire) × IsAt s (Acquiring a A10) × IsEntered s a (Acquiring a A10) entered

-- up to the lock: a unit was taken, as of a retry; or there was none after all that is seen now, and the seat
-- may go to the lock
abbrev pub TriesWoken : SeatModel → Retried → Type 0
TriesWoken s (retried.Taken t) = IsRetried s (Taken t)
TriesWoken s (retried.Zero t) =
    (t ≡ record s { sight = t.sight; strides = t.strides })
    × ((a : Acquire) × IsAt s (Acquiring a A10) × ComesTo s (Acquiring a A3) t
    × RunsRows s (Acquiring a A10) t [] × ((plain_seen t).numbers a.counter ≡ 0))

-- a call whose last row stood here, with this wait in hand, and stored n in the grant word of the wait's seat
pub record CallsGrant (s : SeatModel) (from : Place) (t : SeatModel) (told : List Entry) (place : Place)
    (w : WaitId) (n : ℕ)
    : Type 0 where
  pub call : RunsRows s from t told
  pub before : List SemaStride
  pub last : SemaStride
  pub strides_are : call.strides ≡ before ++ last ∷ []
  pub did : last.deed ≡ runs
  pub row : last.stood.place ≡ place
  pub hand_is : last.stood.hand ≡ w ∷ []
  pub word : word_of_stride (layout s.table.setting) s.number last ≡ Grant w.seat
  pub stored : (row_event (layout s.table.setting) s.number last).becomes last.read ≡ n

-- nobody was taken out; or one wait, by the seat, which granted it 1 at its last row, or 2, for the unit that
-- it took for the wait's seat
abbrev pub Wakes : SeatModel → Release → SeatModel → Wake → Type 0
Wakes s r t woken.Nobody = RunsRows s (Releasing r R3) t []
Wakes s r t (woken.One w) =
    CallsGrant s (Releasing r R3) t (Leave r.counter w s.number ∷ []) (Releasing r R10) w 1
Wakes s r t (woken.Handed w) =
    (r.handoff ≡ true)
    × CallsGrant s (Releasing r R3) t (Leave r.counter w s.number ∷ Take r.counter w.seat ∷ [])
    (Releasing r R9) w 2

-- the rows of this release from the lock on, by which the seat has come to rest
abbrev pub WakesFrom : SeatModel → Release → SeatModel → Wake → Type 0
WakesFrom s r t wake = (t ≡ record s { sight = t.sight; strides = t.strides }) × ComesTo s Rest t × Wakes s r t wake

-- the same of the release that the seat is in the middle of
abbrev pub IsWakened : SeatModel → Bool → SeatModel → Wake → Type 0
IsWakened s handoff t wake =
    (c : ℕ) × IsAt s (Releasing (record { counter = c; handoff = false }) R3)
    × (t ≡ record s { sight = t.sight; strides = t.strides }) × ComesTo s Rest t
    × Wakes s (record { counter = c; handoff = handoff }) t wake
