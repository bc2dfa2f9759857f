-- What the calls that look, take and sleep are to their caller: the seat before and after, and what the
-- answer means.
use Rattle.std.specs.Prelude.{◌≡◌, ◌≢◌, ◌⊎◌, ℕ, ◌+◌, ◌<◌, Bool, Option, Some, None, List, [], ◌∷◌, ◌++◌, map}
use Rattle.std.specs.List.{All, filter}
use Rattle.waiters.specs.declared.wait.WaitId.{WaitId}
use Rattle.step_table.specs.declared.entry.Entry.{Entry}
use Rattle.step_table.specs.declared.entry.Entry.TheVariants.{Take, Queue}
use Rattle.step_table.specs.declared.place.AcquireRow.TheVariants.{Parked, A10}
use Rattle.step_table.specs.declared.place.ParkedRow.TheVariants.{P}
use Rattle.step_table.specs.declared.place.Place.TheVariants.{Acquiring}
use Rattle.step_table.specs.Journal.{plain_start, IsLawful, HasLeft, HasItsUnit}
use Rattle.step_law_semaphores.specs.SemaPath.{is_own}
use Rattle.sema_table.specs.declared.answers.Tried.{Tried}
use Rattle.sema_table.specs.declared.answers.Tried.TheVariants.{Taken, Zero, Lost}
use Rattle.sema_table.specs.declared.answers.Entered.{Entered}
use Rattle.sema_table.specs.declared.answers.Entered.TheVariants as entered
use Rattle.sema_table.specs.declared.answers.Retried.{Retried}
use Rattle.sema_table.specs.declared.answers.Retried.TheVariants as retried
use Rattle.sema_table.specs.declared.answers.Polled.{Polled}
use Rattle.sema_table.specs.declared.answers.Polled.TheVariants.{Still, Woken, Handed}
use Rattle.sema_table.specs.declared.answers.Roused.{Roused}
use Rattle.sema_table.specs.declared.answers.Roused.TheVariants as roused
use Rattle.sema_table.specs.Setting.{root, layout}
use Rattle.sema_table.specs.Seats.{SeatModel}
use Rattle.sema_table.specs.Calls.{TellsIn, plain_seen}
use Rattle.sema_table.specs.Tries.{waits_seen}

-- t is the seat s of the same table, after it has spent so many units, for those that it added and one for
-- each wait that it withdrew, and was given so many. It has told
-- these entries, in this order, among what others told, and nothing else that it alone can tell; and what it
-- has seen is lawful
pub record IsSeatAfter (s : SeatModel) (spent given : ℕ) (told : List Entry) (t : SeatModel) : Type 0 where
  pub table : t.table ≡ s.table
  pub number : t.number ≡ s.number
  pub left : t.left + spent ≡ s.left
  pub taken : t.taken ≡ s.taken + given
  pub tells : TellsIn s.sight.seen told t.sight.seen
  pub own : filter (is_own s.number) t.sight.seen ≡ filter (is_own s.number) (s.sight.seen ++ told)
  pub lawful : IsLawful (plain_start (layout s.table.setting).starts) t.sight.seen

-- nothing was done: the seat stands as it stood, and has seen more of what others told
abbrev pub StandsOn : SeatModel → SeatModel → Type 0
StandsOn s t = IsSeatAfter s 0 0 [] t × (t.sight.stands ≡ s.sight.stands)

-- n is the number of the counter after all that is seen now
abbrev pub ReadsNumber : SeatModel → ℕ → ℕ → SeatModel → Type 0
ReadsNumber s c n t = IsSeatAfter s 0 0 [] t × (n ≡ (plain_seen t).numbers c)

-- n waits are queued on the counters of c's root after all that is seen now, or one fewer
abbrev pub CountsWaits : SeatModel → ℕ → ℕ → SeatModel → Type 0
CountsWaits s c n t =
    let waits = waits_seen t (root s.table.setting c) in
    IsSeatAfter s 0 0 [] t × ((n ≡ waits) ⊎ (n ≡ waits + 1))

-- there is no unit of c after all that is seen now
abbrev pub FindsNoUnit : SeatModel → ℕ → SeatModel → Type 0
FindsNoUnit s c t = IsSeatAfter s 0 0 [] t × ((plain_seen t).numbers c ≡ 0)

-- a unit was taken; or there was none; or there was one, and then another number
abbrev pub TriesToAcquire : SeatModel → ℕ → Tried → SeatModel → Type 0
TriesToAcquire s c Taken t = IsSeatAfter s 0 1 (Take c s.number ∷ []) t
TriesToAcquire s c Zero t = FindsNoUnit s c t
TriesToAcquire s c Lost t =
    (u : SeatModel) × IsSeatAfter s 0 0 [] u × (0 < (plain_seen u).numbers c)
    × IsSeatAfter u 0 0 [] t × ((plain_seen t).numbers c ≢ (plain_seen u).numbers c)

-- waits of the seat were queued on c, one after the other, at the end or with lifo at the front; it took a
-- unit last of all, or one was taken for the last of these waits, after that had left
abbrev pub WaitsForUnit : SeatModel → ℕ → Bool → SeatModel → Type 0
WaitsForUnit s c lifo t =
    (waits : List WaitId) × All (λ w. w.seat ≡ s.number) waits
    × (IsSeatAfter s 0 1 (map (λ w. Queue c w lifo) waits ++ Take c s.number ∷ []) t
    ⊎ (IsSeatAfter s 0 1 (map (λ w. Queue c w lifo) waits) t
    × ((before : List WaitId) × (w : WaitId) × (waits ≡ before ++ w ∷ []) × HasItsUnit c w t.sight.seen)))

-- a unit was taken at once; or there was none, and the seat waited for one
abbrev pub AcquiresUnit : SeatModel → ℕ → Bool → SeatModel → Type 0
AcquiresUnit s c lifo t =
    IsSeatAfter s 0 1 (Take c s.number ∷ []) t
    ⊎ ((u : SeatModel) × FindsNoUnit s c u × WaitsForUnit u c lifo t)

-- the seat waits for a unit of c: it sleeps with this wait, or it was woken and has to try
abbrev pub IsWaitingOn : SeatModel → ℕ → Bool → Option WaitId → Type 0
IsWaitingOn s c lifo (Some w) =
    (w.seat ≡ s.number) × (s.sight.stands.place ≡ Acquiring (record { counter = c; lifo = lifo }) (Parked w.turn P))
IsWaitingOn s c lifo None = s.sight.stands.place ≡ Acquiring (record { counter = c; lifo = lifo }) A10

-- a unit was taken; or there was none, and the seat sleeps, its wait the last that it has seen
abbrev pub JoinsQueue : SeatModel → ℕ → Bool → Entered → Type 0
JoinsQueue s c lifo (entered.Taken t) = IsSeatAfter s 0 1 (Take c s.number ∷ []) t
JoinsQueue s c lifo (entered.Asleep t) =
    (u : SeatModel) × FindsNoUnit s c u
    × ((w : WaitId) × IsWaitingOn t c lifo (Some w) × IsSeatAfter u 0 0 (Queue c w lifo ∷ []) t
    × ((before : List Entry) × (t.sight.seen ≡ before ++ Queue c w lifo ∷ [])))

-- the seat that was woken tried first, for a unit of the same counter
abbrev pub TriesAgain : SeatModel → Entered → Type 0
TriesAgain s entered = (c : ℕ) × (lifo : Bool) × IsWaitingOn s c lifo None × JoinsQueue s c lifo entered

-- the seat that was woken took a unit of the same counter; or there is none after all that is seen now
abbrev pub TriesOnce : SeatModel → Retried → Type 0
TriesOnce s (retried.Taken t) = TriesAgain s (entered.Taken t)
TriesOnce s (retried.Zero t) = (c : ℕ) × (lifo : Bool) × IsWaitingOn s c lifo None × FindsNoUnit s c t

-- the seat sleeps on as before; or it was woken, its wait has left, and it has to try; or it was handed a
-- unit, which was taken for it after its wait had left
abbrev pub PollsGrant : SeatModel → Polled → Type 0
PollsGrant s (Still t) = StandsOn s t
PollsGrant s (Woken t) =
    (c : ℕ) × (lifo : Bool) × (w : WaitId) × IsWaitingOn s c lifo (Some w)
    × IsSeatAfter s 0 0 [] t × IsWaitingOn t c lifo None × HasLeft c w t.sight.seen
PollsGrant s (Handed t) =
    (c : ℕ) × (lifo : Bool) × (w : WaitId) × IsWaitingOn s c lifo (Some w)
    × IsSeatAfter s 0 1 [] t × HasItsUnit c w t.sight.seen

-- the seat was woken, or handed a unit
abbrev pub SleepsUntilRoused : SeatModel → Roused → Type 0
SleepsUntilRoused s (roused.Woken t) = PollsGrant s (Woken t)
SleepsUntilRoused s (roused.Handed t) = PollsGrant s (Handed t)
