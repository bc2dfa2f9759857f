-- What the rows of an add and of a wait are to their caller.
use Rattle.std.proofs.Common.{◌≡◌, ℕ, zero, suc, ◌+◌, ℤ, inl, inr, refl, ap, ◌∙◌, arith}
use Rattle.std.specs.Prelude.{Result, Ok, Err}
use Rattle.step_table.specs.declared.group_word.GroupWord.{GroupWord}
use Rattle.step_table.specs.declared.misuse.Misuse.{Misuse}
use Rattle.step_table.specs.declared.standing.GroupRow.TheVariants.{V1, V3}
use Rattle.step_table.specs.declared.standing.GroupNext.{GroupNext}
use Rattle.step_table.specs.declared.standing.GroupNext.TheVariants.{Ends, Goes, Fails, Acquires, Releases, SleepsOn, Withdraws}
use Rattle.step_table.specs.declared.standing.Ending.TheVariants.{NextCall}
use Rattle.step_table.specs.Group.{plus, empty_word}
use Rattle.sema_table.specs.Seats.{SeatModel}
use Rattle.sync_parts.specs.GroupPlays.{step}
use Rattle.sync_parts.specs.GroupSeats.{GroupSeatModel}
use Rattle.sync_parts.specs.GroupCallers.{IsGroupSeatAfter, released_by, TellsOfAdd, AddsToGroup, WaitsForZero}
use Rattle.sync_parts.specs.GroupCalls.{HasReleased, Answers, IsAdded, IsCounted, IsWaited}
use Rattle.sync_parts.proofs.Calling.{stays_acquired, stays_released}

released_number : (n : ℕ) (s t : SeatModel) → HasReleased n s t → t.number ≡ s.number
released_number zero s t x = ap (λ (q : SeatModel). q.number) x
released_number (suc n) s t x = (stays_released x.0 t 0 x.2.0 x.2.1).number ∙ released_number n s x.0 x.1

released_taken : (n : ℕ) (s t : SeatModel) → HasReleased n s t → t.taken ≡ s.taken
released_taken zero s t x = ap (λ (q : SeatModel). q.taken) x
released_taken (suc n) s t x = (stays_released x.0 t 0 x.2.0 x.2.1).taken_is ∙ released_taken n s x.0 x.1

-- what an add does on the semaphore keeps the seat's number and what it was given
number_by : (next : GroupNext) (s t : SeatModel) (answer : Result ℕ Misuse) → Answers next s t answer → t.number ≡ s.number
number_by Ends s t answer x = ap (λ (q : SeatModel). q.number) x.1
number_by (Fails misuse) s t answer x = ap (λ (q : SeatModel). q.number) x.1
number_by (Releases n) s t answer x = released_number n s t x.1
number_by (Goes row) s t answer x = absurd x
number_by (Acquires ending) s t answer x = absurd x
number_by (SleepsOn how) s t answer x = absurd x
number_by (Withdraws how) s t answer x = absurd x

taken_by : (next : GroupNext) (s t : SeatModel) (answer : Result ℕ Misuse) → Answers next s t answer → t.taken ≡ s.taken
taken_by Ends s t answer x = ap (λ (q : SeatModel). q.taken) x.1
taken_by (Fails misuse) s t answer x = ap (λ (q : SeatModel). q.taken) x.1
taken_by (Releases n) s t answer x = released_taken n s t x.1
taken_by (Goes row) s t answer x = absurd x
taken_by (Acquires ending) s t answer x = absurd x
taken_by (SleepsOn how) s t answer x = absurd x
taken_by (Withdraws how) s t answer x = absurd x

-- an add that answers a misuse has released nothing
left_refused : (next : GroupNext) (s t : SeatModel) (misuse : Misuse) → Answers next s t (Err misuse) → t.left + 0 ≡ s.left
left_refused Ends s t misuse x = let e = ap (λ (q : SeatModel). q.left) x.1 in omega arith
left_refused (Fails other) s t misuse x = let e = ap (λ (q : SeatModel). q.left) x.1 in omega arith
left_refused (Releases n) s t misuse x = let e = x.0 in absurd (cc)
left_refused (Goes row) s t misuse x = absurd x
left_refused (Acquires ending) s t misuse x = absurd x
left_refused (SleepsOn how) s t misuse x = absurd x
left_refused (Withdraws how) s t misuse x = absurd x

left_by : (s t : GroupSeatModel) (d : ℤ) (answer : Result ℕ Misuse) → IsAdded s d t answer
    → t.sema.left + released_by answer ≡ s.sema.left
left_by s t d (Ok n) is = is.made.1
left_by s t d (Err misuse) is = left_refused is.next s.sema t.sema misuse is.answers

-- an add, by its rows and by what its answer tells
pub adds_by : (s t : GroupSeatModel) (d : ℤ) (answer : Result ℕ Misuse) → (is : IsAdded s d t answer) → TellsOfAdd d (plus is.found d) answer
    → AddsToGroup s d t answer
adds_by s t d answer is tells = record {
  found = is.found;
  rest = is.after;
  added = is.ran.steps_are;
  tells = tells;
  after = record {
    group = is.ran.group;
    number = number_by is.next s.sema t.sema answer is.answers;
    left = left_by s t d answer is;
    taken = let e = taken_by is.next s.sema t.sema answer is.answers in omega arith;
  };
}

-- a wait that was counted was released once
after_counted : (s t : GroupSeatModel) (word : GroupWord) (next : GroupNext) → IsCounted s word next t → IsGroupSeatAfter s 0 1 t
after_counted s t word next is =
    let stays = stays_acquired s.sema t.sema 0 is.acquired in
    let left_is = stays.left_is in
    record { group = is.ran.group; number = stays.number; left = omega arith; taken = stays.taken_is }

-- a wait, by its rows
pub waits_by : (s t : GroupSeatModel) (answer : Result (Unit {0}) Misuse) → IsWaited s t answer → WaitsForZero s t answer
waits_by s t (Ok done) (inl is) =
    let left_is = ap (λ (q : SeatModel). q.left) is.alone in
    let taken_is = ap (λ (q : SeatModel). q.taken) is.alone in
    record {
      before = is.before;
      last = step (V1 NextCall) is.word;
      looked = is.ran.steps_are;
      woken = 0;
      tells = (is.zero, inl refl);
      after = record {
        group = is.ran.group;
        number = ap (λ (q : SeatModel). q.number) is.alone;
        left = omega arith;
        taken = omega arith;
      };
    }
waits_by s t (Ok done) (inr is) = record {
  before = is.before;
  last = step (V3 NextCall) empty_word;
  looked = is.ran.steps_are;
  woken = 1;
  tells = (refl, inr (refl, refl));
  after = after_counted s t empty_word Ends is;
}
waits_by s t (Err misuse) (reused, (word, other, is)) = record {
  before = is.before;
  last = step (V3 NextCall) word;
  looked = is.ran.steps_are;
  woken = 1;
  tells = (reused, refl, other);
  after = after_counted s t word _ is;
}
