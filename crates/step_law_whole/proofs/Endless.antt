-- The three tables that may go on for ever: each has rows that lead from a reached world back to it.
use Rattle.std.proofs.Common.{◌≡◌, ℕ, zero, suc, ◌<◌, Bool, true, false, eqb, ◌&&◌, [], ◌∷◌, IsTrue, refl, sym, ap, ◌∙◌, subst}
use Rattle.std.proofs.Common.{arith, ne_eqb}
use mathlib.Core.Path.{fun_ext}
use native.Mathlib.Decide.{ℕ_discrete}
use Rattle.step_table.specs.declared.place.Acquire.{Acquire}
use Rattle.step_table.specs.declared.place.Release.{Release}
use Rattle.step_table.specs.declared.place.AcquireRow.TheVariants.{A1, Parked, A10}
use Rattle.step_table.specs.declared.place.ParkedRow.TheVariants.{P}
use Rattle.step_table.specs.declared.place.ReleaseRow.TheVariants.{R1, R4}
use Rattle.step_table.specs.declared.place.Place.{Place}
use Rattle.step_table.specs.declared.place.Place.TheVariants.{Rest, Acquiring, Releasing}
use Rattle.step_table.specs.declared.entry.Entry.TheVariants.{Queue}
use Rattle.step_table.specs.Counting.{wait}
use Rattle.step_table.specs.declared.word.Word.{Word}
use Rattle.step_table.specs.declared.word.Word.TheVariants.{Counter, Waiters}
use Rattle.step_table.specs.World.{Layout, SeatState, SemaWorld, put, insert_wait, found, first_world}
use Rattle.step_table.specs.Event.{to}
use Rattle.step_table.specs.Turn.{TurnOf, none, more}
use Rattle.step_table.specs.Turn as turns
use Rattle.step_table.specs.Steps.{after, can_turn, turned, moved, Choice, acquire, release, turn, choose, IsReached}
use Rattle.step_table.proofs.Sums.{put_same, unwritten}
use Rattle.step_law_whole.specs.Endless.{Astray, retry_looks_again_for_ever, try_loses_for_no_reason, release_looks_again_for_ever, astray_rules, HasNoWeight}
use Rattle.step_law_whole.specs.Endless.{NoneHasWeight}

-- one counter, which starts at this number, and two seats
abbrev two_seats : ℕ → Layout
two_seats start = record { counters = 1; seats = 2; root = λ c. 0; starts = λ c. start }

abbrev on_it : Acquire
on_it = record { counter = 0; lifo = false }

abbrev of_it : Release
of_it = record { counter = 0; handoff = false }

-- seat i runs n rows, each of which it can
abbrev rows : SemaWorld → ℕ → ℕ → SemaWorld
rows s i zero = s
rows s i (suc n) = turned (λ c. 0) (rows s i n) i

abbrev can_all : SemaWorld → ℕ → ℕ → Bool
can_all s i zero = true
can_all s i (suc n) = can_all s i n && can_turn (λ c. 0) (rows s i n) i

ran : (start n i : ℕ) {s : SemaWorld} → i < 2 → IsReached (two_seats start) s → IsTrue (can_all s i n) → IsReached (two_seats start) (rows s i n)
ran start zero i there led can = led
ran start (suc n) i {s = s} there led can =
    let each = both_true (can_all s i n) (can_turn (λ c. 0) (rows s i n) i) can in
    more i there (ran start n i there led each.0) (turn (record { can = each.1; is = refl }))
  where
    both_true : (a b : Bool) → IsTrue (a && b) → IsTrue a × IsTrue b
    both_true true b e = (refl, e)
    both_true false b e = absurd cc

-- seat i begins a call
began : (start i : ℕ) {s : SemaWorld} {place : Place} → i < 2 → IsReached (two_seats start) s → Choice 1 (s.seats i).place place
    → IsReached (two_seats start) (moved s i place)
began start i there led choice = more i there led (choose choice)

abbrev acquires : SemaWorld → ℕ → SemaWorld
acquires s i = moved s i (Acquiring on_it A1)

abbrev releases : SemaWorld → ℕ → SemaWorld
releases s i = moved s i (Releasing of_it R1)

-- a load that leads to where it stood leads back to its world
stays_so : (s : SemaWorld) (i : ℕ) (w : Word) (place : Place) → (s.seats i).place ≡ place
    → after (λ c. 0) s i w (found (λ c. 0) s.words w) (to place) ≡ s
stays_so s i w place at = ap (λ p. after (λ c. 0) s i w (found (λ c. 0) s.words w) (to p)) (sym at) ∙ same
  where
    same : after (λ c. 0) s i w (found (λ c. 0) s.words w) (to (s.seats i).place) ≡ s
    same = λ k. record { words = unwritten (λ c. 0) s.words w k; seats = put_same s.seats i k; journal = s.journal }

-- a row that leads back to its world can't lower its weight
back_to_itself : (start : ℕ) (table : Astray) (s : SemaWorld) (i : ℕ) → i < 2 → IsReached (two_seats start) s
    → TurnOf (astray_rules table (λ c. 0)) s i s → HasNoWeight (two_seats start) table
back_to_itself start table s i there led back weight lowered = let less = lowered s s i there led back in absurd (omega arith)

-- what holds of each value of a function that has changed at 0 alone
at_each : {A : Type 0} (f g : ℕ → A) → f 0 ≡ g 0 → ((k : ℕ) → eqb k 0 ≡ false → f k ≡ g k) → f ≡ g
at_each f g here else = fun_ext (λ k. by k (ℕ_discrete k 0))
  where
    by : (k : ℕ) → Dec (k ≡ 0) → f k ≡ g k
    by k (yes e) = rw e here
    by k (no ne) = else k (ne_eqb k 0 ne)

-- seat 0 sleeps
abbrev slept : SemaWorld
slept = rows (acquires (first_world (λ c. 0)) 0) 0 5

abbrev idle : SeatState
idle = record { place = Rest; turn = 0; hand = [] }

abbrev parked : SemaWorld
parked =
    record {
      words = record {
        numbers = λ c. 0;
        locks = λ r. 0;
        waiters = put (λ r. 0) 0 1;
        grants = λ k. 0;
        lists = put (λ c. []) 0 (wait 0 0 ∷ []);
      };
      seats = put (λ k. idle) 0 (record { place = Acquiring on_it (Parked 0 P); turn = 1; hand = [] });
      journal = Queue 0 (wait 0 0) false ∷ [];
    }

is_parked : slept ≡ parked
unfolding put insert_wait
is_parked = λ j. record {
  words = record {
    numbers = at_each slept.words.numbers parked.words.numbers refl (λ k ne. rw ne refl) j;
    locks = at_each slept.words.locks parked.words.locks refl (λ k ne. rw ne refl) j;
    waiters = at_each slept.words.waiters parked.words.waiters refl (λ k ne. rw ne refl) j;
    grants = λ k. 0;
    lists = at_each slept.words.lists parked.words.lists refl (λ k ne. rw ne refl) j;
  };
  seats = at_each slept.seats parked.seats refl (λ k ne. rw ne refl) j;
  journal = Queue 0 (wait 0 0) false ∷ [];
}

comes_to_park : IsReached (two_seats 0) parked
unfolding put
comes_to_park =
    subst (IsReached (two_seats 0)) is_parked (ran 0 5 0 (omega arith) (began 0 0 (omega arith) none (acquire on_it (omega arith))) refl)

-- seat 1 wakes it without a unit, and takes the unit itself; seat 0 reads 0
abbrev robbed : SemaWorld
robbed = rows (rows (acquires (rows (releases parked 1) 1 7) 1) 1 2) 0 1

comes_to_retry : IsReached (two_seats 0) robbed
unfolding put
comes_to_retry =
    ran 0 1 0 (omega arith) (ran 0 2 1 (omega arith) (began 0 1 (omega arith) (ran 0 7 1 (omega arith)
    (began 0 1 (omega arith) comes_to_park (release of_it (omega arith))) refl) (acquire on_it (omega arith))) refl) refl

retries : HasNoWeight (two_seats 0) retry_looks_again_for_ever
unfolding put
retries =
    back_to_itself 0 retry_looks_again_for_ever robbed 0 (omega arith) comes_to_retry
    (record { can = refl; is = sym (stays_so robbed 0 (Counter 0) (Acquiring on_it A10) refl) })

-- seat 1 sees the waiter word of seat 0, which finds its unit by the second look; then seat 1 finds nobody
abbrev seen : SemaWorld
seen = rows (releases (rows (acquires (first_world (λ c. 0)) 0) 0 3) 1) 1 2

abbrev gone : SemaWorld
gone = rows (rows seen 0 4) 1 1

comes_to_look : IsReached (two_seats 0) gone
unfolding put
comes_to_look =
    ran 0 1 1 (omega arith) (ran 0 4 0 (omega arith) (ran 0 2 1 (omega arith) (began 0 1 (omega arith)
    (ran 0 3 0 (omega arith) (began 0 0 (omega arith) none (acquire on_it (omega arith))) refl)
    (release of_it (omega arith))) refl) refl) refl

releases_so : HasNoWeight (two_seats 0) release_looks_again_for_ever
unfolding put
releases_so =
    back_to_itself 0 release_looks_again_for_ever gone 1 (omega arith) comes_to_look
    (record { can = refl; is = sym (stays_so gone 1 (Waiters 0) (Releasing of_it R4) refl) })

-- seat 0 reads 1, tries, loses and reads 1 again
abbrev reads : SemaWorld
reads = acquires (first_world (λ c. 1)) 0

abbrev tries : SemaWorld
tries = rows reads 0 1

abbrev lost : SemaWorld
lost = turns.turned (astray_rules try_loses_for_no_reason (λ c. 0)) tries 0

comes_to_try : IsReached (two_seats 1) tries
unfolding put
comes_to_try = ran 1 1 0 (omega arith) (began 1 0 (omega arith) none (acquire on_it (omega arith))) refl

-- having lost, it stands where it first read, in the same words
reads_again : lost ≡ reads
unfolding put
reads_again = λ j. record {
  words = record reads.words { numbers = at_each lost.words.numbers reads.words.numbers refl (λ k ne. rw ne refl) j };
  seats = at_each lost.seats reads.seats refl (λ k ne. rw ne refl) j;
  journal = [];
}

loses : HasNoWeight (two_seats 1) try_loses_for_no_reason
unfolding put
loses weight lowered =
    let first = lowered reads tries 0 (omega arith) (began 1 0 (omega arith) none (acquire on_it (omega arith))) (record { can = refl; is = refl }) in
    let second = lowered tries lost 0 (omega arith) comes_to_try (record { can = refl; is = refl }) in
    let back = ap weight reads_again in absurd (omega arith)

pub none_has_weight : NoneHasWeight
none_has_weight retry_looks_again_for_ever = (two_seats 0, retries)
none_has_weight try_loses_for_no_reason = (two_seats 1, loses)
none_has_weight release_looks_again_for_ever = (two_seats 0, releases_so)
