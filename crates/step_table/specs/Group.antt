-- The rows of a wait group.
use Rattle.std.specs.Prelude.{◌+◌, ◌-◌, ◌==◌, ◌&&◌, ◌||◌, not, if◌then◌else◌, Bool, ℤ, pos, int_lt, ◌^◌}
use Rattle.std.specs.Int.{int_wrapping_add, w32}
use Rattle.std.specs.Ordering.{int_eq}
use Rattle.step_table.specs.declared.group_word.GroupWord.{GroupWord}
use Rattle.step_table.specs.declared.misuse.Misuse.TheVariants.{Negative, AddWithWait, Reused}
use Rattle.step_table.specs.declared.standing.GroupRow.{GroupRow}
use Rattle.step_table.specs.declared.standing.GroupRow.TheVariants.{G1, G2, G3, V1, V2, V3, V4, V5}
use Rattle.step_table.specs.declared.standing.GroupNext.{GroupNext}
use Rattle.step_table.specs.declared.standing.GroupNext.TheVariants.{Ends, Goes, Fails, Acquires, Releases}
use Rattle.step_table.specs.declared.standing.GroupNext.TheVariants.{SleepsOn, Withdraws}
use Rattle.step_table.specs.EventOf.{EventOf, load, store, change, exchange_if}

-- nobody is counted, and nobody waits
abbrev pub empty_word : GroupWord
empty_word = record { counter = pos 0; waits = 0 }

abbrev pub same_word : GroupWord → GroupWord → Bool
same_word a b = int_eq a.counter b.counter && (a.waits == b.waits)

-- the word with d added to its high half
abbrev pub plus : GroupWord → ℤ → GroupWord
plus w d = record w { counter = int_wrapping_add w32 w.counter d }

-- the word plus 1: one more wait
abbrev pub one_more : GroupWord → GroupWord
one_more w =
    if w.waits == (2 ^ 32 - 1)
    then record { counter = int_wrapping_add w32 w.counter (pos 1); waits = 0 }
    else record w { waits = w.waits + 1 }

-- the word less 1, where a wait is counted: one wait less
abbrev pub one_less : GroupWord → GroupWord
one_less w = record w { waits = w.waits - 1 }

-- what follows an add of d that left this word
abbrev pub after_add : ℤ → GroupWord → GroupNext
after_add d w =
    if int_lt w.counter (pos 0) then Fails Negative
    else if not (w.waits == 0) && int_lt (pos 0) d && int_eq w.counter d then Fails AddWithWait
    else if int_lt (pos 0) w.counter || (w.waits == 0) then Ends
    else Goes (G2 w)

-- what a row does to the word of its group
abbrev pub group_event : {Word : Type 0} → Word → GroupRow → EventOf Word GroupWord GroupNext
group_event g (G1 d) = change g (λ w. plus w d) (after_add d)
-- looked at again: an add that came since G1 has begun a round beside waits that haven't returned, and the
-- store of G3 would wipe it out unseen
group_event g (G2 seen) = load g (λ w. if same_word seen w then Goes (G3 seen) else Fails AddWithWait)
-- emptied before the first release: a woken wait would find the old word at V3, and take it for a new round
group_event g (G3 seen) = store g empty_word (Releases seen.waits)
group_event g (V1 ending) = load g (λ w. if int_eq w.counter (pos 0) then Ends else Goes (V2 ending w))
-- counted before it sleeps, and only in the word that V1 read: an add that leads to 0 releases the waits that
-- are counted. One that isn't, or that counts itself after that add, would sleep for good
group_event g (V2 ending seen) = exchange_if g (same_word seen) one_more (Acquires ending) (Goes (V1 ending))
group_event g (V3 ending) = load g (λ w. if same_word w empty_word then Ends else Fails Reused)
-- looked at under the semaphore's lock, where the wait is queued. At 0 an add stands between G1 and G3, and
-- allows no change of the word: the wait is counted, and a unit of its own is on the way
group_event g (V4 how) =
    load g (λ w. if int_eq w.counter (pos 0) || (w.waits == 0) then SleepsOn how else Goes (V5 how w))
-- uncounted in the same hold, before the wait is taken out: G3 makes as many releases as were counted, and a unit
-- without a wait would let the next round's wait return early
group_event g (V5 how seen) = exchange_if g (same_word seen) one_less (Withdraws how) (Goes (V4 how))

-- what it leaves of the word that it found, and what follows
abbrev pub group_row : GroupRow → GroupWord → GroupWord × GroupNext
group_row row w =
    let e : EventOf (Unit {0}) GroupWord GroupNext = group_event tt row in (e.becomes w, e.leads w)
