-- What a call by which a sleeping seat gives up is to its caller.
use Rattle.std.specs.Prelude.{◌≡◌, ◌⊎◌, ℕ, Bool, Some, List, [], ◌∷◌}
use Rattle.waiters.specs.declared.wait.WaitId.{WaitId}
use Rattle.step_table.specs.declared.entry.Entry.{Entry}
use Rattle.step_table.specs.declared.entry.Entry.TheVariants.{Withdraw}
use Rattle.step_table.specs.declared.place.AcquireRow.TheVariants.{Parked}
use Rattle.step_table.specs.declared.place.ParkedRow.TheVariants.{D3}
use Rattle.step_table.specs.declared.place.Place.TheVariants.{Acquiring}
use Rattle.step_table.specs.Journal.{HasLeft, HasItsUnit}
use Rattle.sema_table.specs.declared.answers.GaveUp.{GaveUp}
use Rattle.sema_table.specs.declared.answers.GaveUp.TheVariants.{Left, Coming, Woken, Handed, LimitReached}
use Rattle.sema_table.specs.declared.answers.Polled.TheVariants as polled
use Rattle.sema_table.specs.Seats.{SeatModel}
use Rattle.sema_table.specs.Callers.{IsSeatAfter, StandsOn, IsWaitingOn, PollsGrant}

-- w has left c for a release, and a unit of c was taken for its seat since, or none yet
abbrev pub WasLetOut : ℕ → WaitId → List Entry → Type 0
WasLetOut c w journal = HasLeft c w journal ⊎ HasItsUnit c w journal

-- the seat withdrew the wait that was its own; or it sleeps on as before, since its wait had left; or it was
-- woken or handed a unit, as by a poll; or it sleeps on as before, and has no unit left to spend
abbrev pub GivesUp : SeatModel → GaveUp → Type 0
GivesUp s (Left t) =
    (c : ℕ) × (lifo : Bool) × (w : WaitId) × IsWaitingOn s c lifo (Some w)
    × IsSeatAfter s 1 0 (Withdraw c w ∷ []) t
GivesUp s (Coming t) =
    (c : ℕ) × (lifo : Bool) × (w : WaitId) × IsWaitingOn s c lifo (Some w)
    × StandsOn s t × WasLetOut c w t.sight.seen
GivesUp s (Woken t) = PollsGrant s (polled.Woken t)
GivesUp s (Handed t) = PollsGrant s (polled.Handed t)
GivesUp s (LimitReached t) = StandsOn s t × (s.left ≡ 0)

-- the seat gives up a wait on c, and holds the lock under which this wait is queued
abbrev pub IsLeavingOn : SeatModel → ℕ → Bool → WaitId → Type 0
IsLeavingOn l c lifo w =
    (w.seat ≡ l.number) × (l.sight.stands.place ≡ Acquiring (record { counter = c; lifo = lifo }) (Parked w.turn D3))

-- it slept with that wait before, and told nothing since
abbrev pub BeginsToGiveUp : SeatModel → SeatModel → Type 0
BeginsToGiveUp s l =
    (c : ℕ) × (lifo : Bool) × (w : WaitId) × IsWaitingOn s c lifo (Some w)
    × IsLeavingOn l c lifo w × IsSeatAfter s 0 0 [] l

-- from there it withdrew that wait
abbrev pub EndsGivingUp : SeatModel → SeatModel → Type 0
EndsGivingUp l t =
    (c : ℕ) × (lifo : Bool) × (w : WaitId) × IsLeavingOn l c lifo w × IsSeatAfter l 1 0 (Withdraw c w ∷ []) t

-- or it sleeps with it again
abbrev pub SleepsAgain : SeatModel → SeatModel → Type 0
SleepsAgain l t =
    (c : ℕ) × (lifo : Bool) × (w : WaitId) × IsLeavingOn l c lifo w
    × IsWaitingOn t c lifo (Some w) × IsSeatAfter l 0 0 [] t
