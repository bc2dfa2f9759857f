-- What an acquire with a time-out is to its caller.
use Rattle.std.specs.Prelude.{◌≡◌, ◌⊎◌, ℕ, Bool, Some, None, List, [], ◌∷◌, ◌++◌, map}
use Rattle.std.specs.List.{All}
use Rattle.waiters.specs.declared.wait.WaitId.{WaitId}
use Rattle.step_table.specs.declared.entry.Entry.{Entry}
use Rattle.step_table.specs.declared.entry.Entry.TheVariants.{Take, Queue, Withdraw}
use Rattle.step_table.specs.Journal.{HasLeft}
use Rattle.sema_table.specs.declared.answers.Acquired.{Acquired}
use Rattle.sema_table.specs.declared.answers.Acquired.TheVariants.{Taken, TimedOut, LimitReached}
use Rattle.sema_table.specs.Seats.{SeatModel}
use Rattle.sema_table.specs.Callers.{IsSeatAfter, FindsNoUnit, WaitsForUnit, IsWaitingOn}
use Rattle.sema_table.specs.CallersLeaving.{IsLeavingOn}

-- the seat that comes back, whatever the answer
abbrev pub seat_in : Acquired → SeatModel
seat_in (Taken t) = t
seat_in (TimedOut t) = t
seat_in (LimitReached t) = t

-- waits of the seat were queued on c, one after the other, at the end or with lifo at the front, and w last of
-- them. Then it told this, and it has spent and was given so much
abbrev pub QueuesUpTo : SeatModel → ℕ → Bool → WaitId → (spent given : ℕ) → List Entry → SeatModel → Type 0
QueuesUpTo s c lifo w spent given more t =
    (before : List WaitId) × All (λ x. x.seat ≡ s.number) (before ++ w ∷ [])
    × IsSeatAfter s spent given (map (λ x. Queue c x lifo) (before ++ w ∷ []) ++ more) t

-- it sleeps with the last of them
abbrev pub SleepsIn : SeatModel → ℕ → Bool → SeatModel → Type 0
SleepsIn s c lifo t = (w : WaitId) × IsWaitingOn t c lifo (Some w) × QueuesUpTo s c lifo w 0 0 [] t

-- the last of them has left
abbrev pub WasLetOut : SeatModel → ℕ → Bool → SeatModel → Type 0
WasLetOut s c lifo t = (w : WaitId) × HasLeft c w t.sight.seen × QueuesUpTo s c lifo w 0 0 [] t

-- it was woken so, and has yet to try
abbrev pub IsToTry : SeatModel → ℕ → Bool → SeatModel → Type 0
IsToTry s c lifo t = IsWaitingOn t c lifo None × WasLetOut s c lifo t

-- it withdrew the last of them
abbrev pub WithdrewLast : SeatModel → ℕ → Bool → SeatModel → Type 0
WithdrewLast s c lifo t = (w : WaitId) × QueuesUpTo s c lifo w 1 0 (Withdraw c w ∷ []) t

-- the seat waited, and came by a unit, or took one once it had withdrawn its wait; or no wait of it stays in the
-- queue, and there is no unit after all that is seen now
abbrev pub WaitsInTime : SeatModel → ℕ → Bool → Acquired → Type 0
WaitsInTime s c lifo (Taken t) =
    WaitsForUnit s c lifo t
    ⊎ ((u : SeatModel) × WithdrewLast s c lifo u × IsSeatAfter u 0 1 (Take c s.number ∷ []) t)
WaitsInTime s c lifo (TimedOut t) =
    (u : SeatModel) × (WithdrewLast s c lifo u ⊎ WasLetOut s c lifo u) × FindsNoUnit u c t
WaitsInTime s c lifo (LimitReached t) = ⊥

-- a unit was taken at once, or there was none, and the seat waited for one; or there is none after all that is
-- seen now; or nothing was done, and the seat has no unit left to spend
abbrev pub AcquiresInTime : SeatModel → ℕ → Bool → Acquired → Type 0
AcquiresInTime s c lifo (Taken t) =
    IsSeatAfter s 0 1 (Take c s.number ∷ []) t
    ⊎ ((u : SeatModel) × FindsNoUnit s c u × WaitsInTime u c lifo (Taken t))
AcquiresInTime s c lifo (TimedOut t) =
    FindsNoUnit s c t ⊎ ((u : SeatModel) × FindsNoUnit s c u × WaitsInTime u c lifo (TimedOut t))
AcquiresInTime s c lifo (LimitReached t) = (t ≡ s) × (s.left ≡ 0)

-- it holds the lock under which the last of its waits is queued
abbrev pub HoldsLast : SeatModel → ℕ → Bool → SeatModel → Type 0
HoldsLast s c lifo l = (w : WaitId) × IsLeavingOn l c lifo w × QueuesUpTo s c lifo w 0 0 [] l

-- there was no unit, and the seat waited in vain so far
abbrev pub GivesUpHolding : SeatModel → ℕ → Bool → SeatModel → Type 0
GivesUpHolding s c lifo l = (u : SeatModel) × FindsNoUnit s c u × HoldsLast u c lifo l
