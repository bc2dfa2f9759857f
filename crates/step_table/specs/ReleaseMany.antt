-- The rows of a release of many units.
use Rattle.std.specs.Prelude.{ℕ, ◌+◌, nat_lt, ◌&&◌, if◌then◌else◌, List, length}
use Rattle.waiters.specs.declared.wait.WaitId.{WaitId}
use Rattle.step_table.specs.declared.entry.Entry.TheVariants.{AddMany, Leave}
use Rattle.step_table.specs.declared.effect.Effect.TheVariants.{Tells, Wakes}
use Rattle.step_table.specs.declared.place.ReleaseMany.{ReleaseMany}
use Rattle.step_table.specs.declared.place.ManyRow.{ManyRow}
use Rattle.step_table.specs.declared.place.ManyRow.TheVariants.{M1, M2, M3, M4, M5, M6, M7}
use Rattle.step_table.specs.declared.place.Place.{Place}
use Rattle.step_table.specs.declared.place.Place.TheVariants.{Rest, ReleasingMany}
use Rattle.step_table.specs.declared.word.Word.TheVariants.{Counter, Lock, Waiters, Grant}
use Rattle.step_table.specs.EventOf.{load, store, raise, lower, take_lock, give_lock}
use Rattle.step_table.specs.Event.{Event, to, zero_or, by_first, waiter}

-- where a release goes that takes one more wait out: once more to M5, while fewer than its units are in hand,
-- counting that wait, and another stands in the list
abbrev pub after_leave : ReleaseMany → ℕ → ℕ → Place
after_leave r in_hand listed =
    if nat_lt (in_hand + 1) r.units && nat_lt 1 listed then ReleasingMany r M5 else ReleasingMany r M6

-- what a row of the release `r` does for the seat s, which has these waits in hand; `list` is the list of the
-- counter
abbrev pub release_many_event : ℕ → List WaitId → List WaitId → ReleaseMany → ManyRow → Event
release_many_event s hand list r M1 =
    raise (Counter r.counter) r.units (ReleasingMany r M2, Tells (AddMany r.counter r.units s))
release_many_event s hand list r M2 =
    load (Waiters r.counter) (λ v. to (zero_or Rest (λ left. ReleasingMany r M3) v))
release_many_event s hand list r M3 = take_lock (Lock r.counter) (to (ReleasingMany r M4))
release_many_event s hand list r M4 =
    load (Waiters r.counter)
    (λ v. to (zero_or (ReleasingMany r M6)
    (λ left. by_first list (ReleasingMany r M6) (λ w. ReleasingMany r M5)) v))
-- once more while units and waits are left: stopping after one would leave a sleeper beside a unit, and going
-- on past the units would wake seats for which there is none
release_many_event s hand list r M5 =
    lower (Waiters r.counter) 1
    (by_first list (to (ReleasingMany r M6))
    (λ w. (after_leave r (length hand) (length list), Tells (Leave r.counter w s))))
release_many_event s hand list r M6 =
    give_lock (Lock r.counter) (to (by_first hand Rest (λ w. ReleasingMany r M7)))
release_many_event s hand list r M7 =
    store (Grant (waiter s hand)) 1 (if nat_lt 1 (length hand) then ReleasingMany r M7 else Rest, Wakes)
