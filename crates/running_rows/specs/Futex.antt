-- Where threads sleep in the kernel, and what the views of all threads say of it together.
use Rattle.std.specs.Prelude.{◌≡◌, ◌≢◌, ℕ, suc, ◌+◌, ◌<◌, ◌≤◌, Bool, true, false, List, [], ◌∷◌, ◌++◌, slice_index}
use mathlib.Core.Option.{some}
use lib.ListN.{get_elem?}
use Rattle.step_table.specs.Counting.{on, among}
use Rattle.running_rows.specs.declared.parking.Stage.{Stage}
use Rattle.running_rows.specs.declared.parking.Stage.TheVariants.{Counted, Asleep, Owes, Overflowed}
use Rattle.running_rows.specs.declared.parking.Mark.{Mark}
use Rattle.running_rows.specs.declared.parking.Parking.{Parking}

-- a futex: a word at which threads sleep, and one that counts them, and those about to
pub record Futex : Type 0 where
  pub word : ℕ
  pub sleepers : ℕ
  pub is_lock : Bool

-- the words of the one are no words of the other
pub record ShareNoWord (x y : Futex) : Type 0 where
  pub words : x.word ≢ y.word
  pub sleepers : x.sleepers ≢ y.sleepers
  pub word : x.word ≢ y.sleepers
  pub other : x.sleepers ≢ y.word

abbrev pub lock_at : ℕ → ℕ → Futex
lock_at word sleepers = record { word = word; sleepers = sleepers; is_lock = true }

abbrev pub grant_at : ℕ → ℕ → Futex
grant_at word sleepers = record { word = word; sleepers = sleepers; is_lock = false }

-- whether a word of this number lets its sleepers go: a lock that is free, a grant that is stored
abbrev pub lets_go : Bool → ℕ → Type 0
lets_go true n = n ≡ 0
lets_go false n = n ≢ 0

-- 1 where a stage is of this kind at the futex
abbrev pub counted_in : ℕ → Stage → ℕ
counted_in i (Counted j) = on i j 1
counted_in i (Asleep j) = on i j 1
counted_in i _ = 0

abbrev pub asleep_in : ℕ → Stage → ℕ
asleep_in i (Asleep j) = on i j 1
asleep_in i _ = 0

abbrev pub owing_in : ℕ → Stage → ℕ
owing_in i (Owes j) = on i j 1
owing_in i _ = 0

abbrev pub overflowed_in : ℕ → Stage → ℕ
overflowed_in i (Overflowed j) = on i j 1
overflowed_in i _ = 0

-- over all stages of a thread
abbrev pub over : (Stage → ℕ) → List Stage → ℕ
over f [] = 0
over f (p ∷ ps) = f p + over f ps

abbrev pub counted : Futex → Parking → ℕ
counted x v = over (counted_in x.sleepers) v.stages

abbrev pub asleep : Futex → Parking → ℕ
asleep x v = over (asleep_in x.sleepers) v.stages

abbrev pub owing : Futex → Parking → ℕ
owing x v = over (owing_in x.word) v.stages

abbrev pub overflowed : Futex → Parking → ℕ
overflowed x v = over (overflowed_in x.sleepers) v.stages

abbrev pub calls : Futex → Parking → ℕ
calls x v = among x.word v.calls

abbrev pub passed : Futex → Parking → ℕ
passed x v = among x.word v.passed

-- the numbers of the marks at the word i, added up
abbrev pub amount : ℕ → List Mark → ℕ
amount i [] = 0
amount i (m ∷ ms) = on i m.word m.number + amount i ms

abbrev pub paid : Futex → Parking → ℕ
paid x v = amount x.word v.paid

-- over all threads
abbrev pub sum : (Parking → ℕ) → List Parking → ℕ
sum f [] = 0
sum f (v ∷ vs) = f v + sum f vs

-- the number of each mark at the word i is so large at most
abbrev pub AreWithin : ℕ → ℕ → List Mark → Type 0
AreWithin i most [] = Unit {0}
AreWithin i most (m ∷ ms) = (m.word ≡ i → m.number ≤ most) × AreWithin i most ms

-- threads sleep there though the word lets them go. Nobody is between a store there and the look whom to wake, and
-- each grant whose wake-up was left to another has been taken
pub record IsLeft (x : Futex) (words : List ℕ) (threads : List Parking) : Type 0 where
  pub asleep : 0 < sum (asleep x) threads
  pub goes : lets_go x.is_lock (slice_index words x.word)
  pub unowed : sum (owing x) threads ≡ 0
  pub taken : sum (passed x) threads ≤ sum (paid x) threads

-- the kernel was called there since each store of a thread
abbrev pub IsCalledSince : Futex → List Parking → Type 0
IsCalledSince x threads =
    (j : ℕ) (v : Parking) → get_elem? threads j ≡ some v → AreWithin x.word (sum (calls x) threads) v.stored

-- the rule of one futex
pub record IsServed (x : Futex) (words : List ℕ) (threads : List Parking) : Type 0 where
  pub counted : slice_index words x.sleepers ≡ sum (counted x) threads
  pub taken : sum (paid x) threads ≤ sum (passed x) threads
  pub stored : (j : ℕ) (v : Parking) → get_elem? threads j ≡ some v → AreWithin x.word (suc (sum (calls x) threads)) v.stored
  pub called : IsLeft x words threads → IsCalledSince x threads

-- the same unless a count went round, for which it takes 2^64 threads
abbrev pub IsServedYet : Futex → List ℕ → List Parking → Type 0
IsServedYet x words threads = sum (overflowed x) threads ≡ 0 → IsServed x words threads

-- a thread that has done nothing
abbrev pub fresh_parking : Parking
fresh_parking = record { stages = []; calls = []; stored = []; passed = []; paid = [] }

-- what two threads have done, as one did it
abbrev pub joined : Parking → Parking → Parking
joined v w = record {
  stages = v.stages ++ w.stages;
  calls = v.calls ++ w.calls;
  stored = v.stored ++ w.stored;
  passed = v.passed ++ w.passed;
  paid = v.paid ++ w.paid;
}
