-- The rows of a release.
use Rattle.std.specs.Prelude.{ℕ, if◌then◌else◌, List}
use Rattle.waiters.specs.declared.wait.WaitId.{WaitId}
use Rattle.step_table.specs.declared.entry.Entry.TheVariants.{Add, Take, Leave}
use Rattle.step_table.specs.declared.effect.Effect.TheVariants.{Tells, Wakes}
use Rattle.step_table.specs.declared.place.Release.{Release}
use Rattle.step_table.specs.declared.place.ReleaseRow.{ReleaseRow}
use Rattle.step_table.specs.declared.place.ReleaseRow.TheVariants.{R1, R2, R3, R4, R5, R6, R7, R8, R9, R10}
use Rattle.step_table.specs.declared.place.Place.TheVariants.{Rest, Releasing}
use Rattle.step_table.specs.declared.word.Word.TheVariants.{Counter, Lock, Waiters, Grant}
use Rattle.step_table.specs.EventOf.{load, store, exchange, raise, lower, take_lock, give_lock}
use Rattle.step_table.specs.Event.{Event, to, zero_or, by_first, waiter}

-- what a row of the release `r` does for the seat s, which has these waits in hand; `list` is the list of the
-- counter
abbrev pub release_event : ℕ → List WaitId → List WaitId → Release → ReleaseRow → Event
release_event s hand list r R1 = raise (Counter r.counter) 1 (Releasing r R2, Tells (Add r.counter s))
-- looked at only after the unit was added: looked at before, an acquire could read 0 and sleep in between,
-- and nobody would come for it
release_event s hand list r R2 = load (Waiters r.counter) (λ v. to (zero_or Rest (λ left. Releasing r R3) v))
release_event s hand list r R3 = take_lock (Lock r.counter) (to (Releasing r R4))
-- looked at again: since R2 the waiter may have taken the unit itself, or another release may have taken it
-- out, and R5 would lower a word that is 0
release_event s hand list r R4 =
    load (Waiters r.counter)
    (λ v. to (zero_or (Releasing r R6) (λ left. by_first list (Releasing r R6) (λ w. Releasing r R5)) v))
-- taken out under the lock and with the word lowered: after the lock two releases could take one wait, and a
-- word left behind would send every later release to the lock
release_event s hand list r R5 =
    lower (Waiters r.counter) 1
    (by_first list (to (Releasing r R6)) (λ w. (Releasing r R6, Tells (Leave r.counter w s))))
-- given back before the waiter is told: told earlier, it would run into the lock that is still held
release_event s hand list r R6 =
    give_lock (Lock r.counter)
    (to (by_first hand Rest (λ w. if r.handoff then Releasing r R7 else Releasing r R10)))
-- a unit is looked for, not assumed: a seat that never slept may have taken the one of R1, and a grant of 2
-- without a unit would let two seats share one
release_event s hand list r R7 =
    load (Counter r.counter) (λ v. to (zero_or (Releasing r R10) (λ left. Releasing r (R8 left)) v))
release_event s hand list r (R8 left) =
    exchange (Counter r.counter) left (Releasing r R9, Tells (Take r.counter (waiter s hand)))
    (to (Releasing r R7))
release_event s hand list r R9 = store (Grant (waiter s hand)) 2 (Rest, Wakes)
release_event s hand list r R10 = store (Grant (waiter s hand)) 1 (Rest, Wakes)
