-- The rows of an acquire, and of a wait that gives up.
use Rattle.std.specs.Prelude.{ℕ, List, ◌==◌, if◌then◌else◌}
use Rattle.waiters.specs.declared.wait.WaitId.{WaitId}
use Rattle.step_table.specs.declared.entry.Entry.TheVariants.{Take, Queue, Withdraw}
use Rattle.step_table.specs.declared.effect.Effect.TheVariants.{Tells}
use Rattle.step_table.specs.declared.place.Acquire.{Acquire}
use Rattle.step_table.specs.declared.place.AcquireRow.{AcquireRow}
use Rattle.step_table.specs.declared.place.AcquireRow.TheVariants.{A1, A2, A3, A4, A5, A6, A7, A8, A9, Parked, A10}
use Rattle.step_table.specs.declared.place.ParkedRow.TheVariants.{P, D2, D3, D5}
use Rattle.step_table.specs.declared.place.AcquireRow.TheVariants.{A11, D4}
use Rattle.step_table.specs.declared.place.Place.TheVariants.{Rest, Acquiring}
use Rattle.step_table.specs.declared.word.Word.TheVariants.{Counter, Lock, Waiters, Grant}
use Rattle.step_table.specs.World.{stands_in}
use Rattle.step_table.specs.EventOf.{load, exchange, raise, lower, take_lock, give_lock, take_grant}
use Rattle.step_table.specs.Event.{Event, to, zero_or}

-- what a row of the acquire `a` does for the seat s, which has queued t waits; `list` is the list of the counter
abbrev pub acquire_event : ℕ → ℕ → List WaitId → Acquire → AcquireRow → Event
acquire_event s t list a A1 =
    load (Counter a.counter) (λ v. to (zero_or (Acquiring a A3) (λ left. Acquiring a (A2 left)) v))
acquire_event s t list a (A2 left) =
    exchange (Counter a.counter) left (Rest, Tells (Take a.counter s)) (to (Acquiring a A1))
acquire_event s t list a A3 = take_lock (Lock a.counter) (to (Acquiring a A4))
-- raised before the second look: a release that adds its unit after that look finds the word above 0. Raised
-- later, the release could add its unit in between and find nobody, and this seat would sleep beside a unit
acquire_event s t list a A4 = raise (Waiters a.counter) 1 (to (Acquiring a A5))
-- the second look: a release that came since A1 may have found the waiter word at 0 and gone. Without the
-- look this seat would sleep beside its unit
acquire_event s t list a A5 =
    load (Counter a.counter) (λ v. to (zero_or (Acquiring a A7) (λ left. Acquiring a (A6 left)) v))
acquire_event s t list a (A6 left) =
    exchange (Counter a.counter) left (Acquiring a A8, Tells (Take a.counter s)) (to (Acquiring a A5))
-- queued in the hold of the lock in which 0 was read: a release that saw the word waits for this lock, and
-- finds the wait
acquire_event s t list a A7 = give_lock (Lock a.counter)
    (Acquiring a (Parked t P), Tells (Queue a.counter (record { seat = s; turn = t }) a.lifo))
acquire_event s t list a A8 = lower (Waiters a.counter) 1 (to (Acquiring a A9))
acquire_event s t list a A9 = give_lock (Lock a.counter) (to Rest)
acquire_event s t list a (Parked turn P) = take_grant (Grant s) (λ v. to (if v == 1 then Acquiring a A10 else Rest))
acquire_event s t list a A10 =
    load (Counter a.counter) (λ v. to (zero_or (Acquiring a A3) (λ left. Acquiring a (A11 left)) v))
acquire_event s t list a (A11 left) =
    exchange (Counter a.counter) left (Rest, Tells (Take a.counter s)) (to (Acquiring a A10))
-- looked for under the lock: without it, a release could take the wait out between this look and D3. The waiter
-- word would be lowered twice, and a release that reads it as 0 would leave a sleeper beside its unit
acquire_event s t list a (Parked turn D2) = take_lock (Lock a.counter)
    (to (if stands_in s list then Acquiring a (Parked turn D3) else Acquiring a (Parked turn D5)))
-- word and list in one hold: while the lock is free, the word is the number of waits
acquire_event s t list a (Parked turn D3) = lower (Waiters a.counter) 1
    (Acquiring a D4, Tells (Withdraw a.counter (record { seat = s; turn = turn })))
acquire_event s t list a D4 = give_lock (Lock a.counter) (to Rest)
-- asleep again: a release has taken the wait out. If the seat went, the grant would be stored for its next
-- sleep, and the wake-up would be lost
acquire_event s t list a (Parked turn D5) = give_lock (Lock a.counter) (to (Acquiring a (Parked turn P)))
