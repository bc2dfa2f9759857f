-- What a meeting of two seats, and the end of a table, are to their caller.
use Rattle.std.proofs.Common.{◌≡◌, ℕ, zero, suc, ◌+◌, ◌≤◌, List, length, take, slice_index, refl, sym, ap, ◌∙◌, arith}
use Rattle.std.specs.List.{sum}
use Rattle.std.proofs.lemmas.List.{take_all}
use Rattle.std.proofs.lemmas.List.Sums.{sum_by_more}
use Rattle.step_table.specs.declared.word.Word.TheVariants.{Counter}
use Rattle.step_table.specs.Counting.{total}
use Rattle.step_table.specs.Journal.{Plain}
use Rattle.step_table.proofs.Sums.{total_zero, total_suc}
use Rattle.sema_table.specs.declared.view.Setting.{Setting}
use Rattle.sema_table.specs.Seats.{SeatModel}
use Rattle.sema_table.specs.Meeting.{HasMet}
use Rattle.sema_table.specs.Closing.{ClosedModel, IsClosed}
use Rattle.sema_table.specs.CallersEnding.{SeeTheSame, EndsTable}
use Rattle.sema_table.proofs.After.{after_look}

pub sees_the_same : (one other one_now other_now : SeatModel) → HasMet one other one_now other_now
    → SeeTheSame one other one_now other_now
sees_the_same one other one_now other_now x = record {
  one_after = after_look one one_now (Counter 0) x.number x.one_looked;
  other_after = after_look other other_now (Counter 0) x.number x.other_looked;
  same = x.same;
  two = x.two;
}

total_of : (xs : List ℕ) (n : ℕ) → n ≤ length xs → total n (slice_index xs) ≡ sum (take n xs)
total_of xs zero h = total_zero (slice_index xs)
total_of xs (suc n) h =
    let last = total_suc n (slice_index xs) in let before = total_of xs n (omega arith) in
    let more = sum_by_more (λ x. x) xs n 0 (omega arith) in let one_more : suc n ≡ n + 1 = omega arith in let next = ap (λ k. sum (take k xs)) one_more in
    omega arith

sum_of : (xs : List ℕ) (n : ℕ) → length xs ≡ n → total n (slice_index xs) ≡ sum xs
sum_of xs n e = ap (λ k. total k (slice_index xs)) (sym e) ∙ total_of xs (length xs) (omega arith) ∙ ap sum (take_all (length xs) xs (omega arith))

pub ends : (z : Setting) (seats : List SeatModel) (c : ClosedModel) → IsClosed z seats c → EndsTable z seats c
ends z seats c x = record {
  journal = x.world.journal;
  lawful = x.lawful.journal.1;
  begins = x.begins;
  each = x.each;
  own = x.own;
  counters = x.long;
  values = x.values;
  nobody = λ k. ap (λ (y : Plain). y.lists k) (sym x.lawful.journal.0) ∙ x.cleared.lists k;
  released = x.released;
  acquired = x.acquired;
  balanced =
      let values = sum_of c.values (length z.starts) x.long in let starts = sum_of z.starts (length z.starts) refl in let all = x.balanced in omega arith;
}
