-- The steps at a futex, one by one: each keeps its rule, and leaves all other futexes as they were.
use Rattle.std.proofs.Common.{◌≡◌, ◌≢◌, ℕ, suc, ◌+◌, ◌-◌, ◌%◌, ◌^◌, ◌<◌, List, ◌∷◌, length, set, slice_index, slice_set, sym, refl, ap, ◌∙◌, subst, arith, ⊎_elim}
use Rattle.std.proofs.Common.{get_or-set_same, get_or-set_other}
use mathlib.Core.Option.{some}
use lib.ListN.{get_elem?}
use Rattle.step_table.specs.Counting.{among}
use Rattle.step_table.proofs.Sums.{on_here, on_else}
use Rattle.running_rows.specs.declared.parking.Stage.{Stage}
use Rattle.running_rows.specs.declared.parking.Stage.TheVariants.{Counted, Asleep, Wants, Owes, Overflowed}
use Rattle.running_rows.specs.declared.parking.Parking.{Parking}
use Rattle.running_rows.specs.Futex.{Futex, ShareNoWord, lets_go, counted_in, asleep_in, owing_in, overflowed_in, over, counted, owing, overflowed, calls, passed, paid, sum, IsServed, IsServedYet}
use Rattle.running_rows.specs.Parking.{at_stage, but_last, done, fallen_asleep, sleeping, wanting, to_try, standing, called_at, having_called, owing_at, passing_at, paying_at, IsCountedIn}
use Rattle.running_rows.proofs.Serving.{sum_at, none_counted, IsSameAt, after, as_before, none_left, called_now, left_before, left_was, pays_still}

pub over_last : (f : Stage → ℕ) (ps : List Stage) (p : Stage) (rest : List Stage) → ps ≡ p ∷ rest → over f ps ≡ f p + over f (but_last ps)
over_last f ps p rest e = let a = ap (over f) e in let b = ap (λ (l : List Stage). over f (but_last l)) e in omega arith

pub over_fallen : (f : Stage → ℕ) (ps : List Stage) (i : ℕ) (rest : List Stage) → ps ≡ Counted i ∷ rest
    → over f (fallen_asleep ps) + f (Counted i) ≡ over f ps + f (Asleep i)
over_fallen f ps i rest e = let a = ap (over f) e in let b = ap (λ (l : List Stage). over f (fallen_asleep l)) e in omega arith

over_wanting : (f : Stage → ℕ) (ps : List Stage) (i j : ℕ) (rest : List Stage) → ps ≡ Counted i ∷ rest → f (Wants j) ≡ 0
    → over f (wanting j ps) ≡ over f ps
over_wanting f ps i j rest e none = let a = ap (over f) e in let b = ap (λ (l : List Stage). over f (wanting j l)) e in omega arith

over_both_now : (f : Stage → ℕ) (ps : List Stage) (i j : ℕ) (rest : List Stage) → ps ≡ Counted i ∷ rest → f (Wants j) ≡ 0
    → over f (wanting j (fallen_asleep ps)) ≡ over f (fallen_asleep ps)
over_both_now f ps i j rest e none = let a = ap (λ (l : List Stage). over f (fallen_asleep l)) e in
    let b = ap (λ (l : List Stage). over f (wanting j (fallen_asleep l))) e in omega arith

-- the word isn't touched by a store in the count, nor the count by one in the word
module _ (x : Futex) (two : x.word ≢ x.sleepers) (words : List ℕ) (n : ℕ) where
  pub word_kept : slice_index (slice_set words x.sleepers n) x.word ≡ slice_index words x.word
  word_kept = get_or-set_other words x.sleepers x.word n 0 two

  pub count_kept : slice_index (slice_set words x.word n) x.sleepers ≡ slice_index words x.sleepers
  count_kept = get_or-set_other words x.word x.sleepers n 0 (λ e. two (sym e))

module _ (x : Futex) (two : x.word ≢ x.sleepers) (words : List ℕ) (threads : List Parking) (i : ℕ) (v : Parking) (at : get_elem? threads i ≡ some v)
    (yet : IsServedYet x words threads) where
  -- the rule, of a thread that finds no count gone round
  served : (next : List ℕ) (w : Parking) → overflowed x w ≡ overflowed x v → sum (overflowed x) (set threads i w) ≡ 0 → IsServed x words threads
  served next w same none = yet (sym (as_before x words next threads i v w at (overflowed x) same) ∙ none)

  -- a thread is counted
  module _ (lies : x.sleepers < length words) (below : slice_index words x.sleepers < 2 ^ 64) where
    abbrev counts_on : List ℕ
    counts_on = slice_set words x.sleepers ((slice_index words x.sleepers + 1) % 18446744073709551616)

    abbrev one_counted : Parking
    one_counted = at_stage (Counted x.sleepers) v

    pub is_counted : slice_index words x.sleepers ≢ 18446744073709551615 → IsServedYet x counts_on (set threads i one_counted)
    is_counted few none =
        let r = served counts_on one_counted (omega arith) none in
        let one = on_here x.sleepers 1 in
        let more = after x words counts_on threads i v one_counted at (counted x) in
        let was = r.counted in
        let is = get_or-set_same words x.sleepers ((slice_index words x.sleepers + 1) % 18446744073709551616) 0 lies in
        left_before x words counts_on threads i v one_counted at r (omega (arith, few)) (pays_still x words counts_on threads i v one_counted at r refl refl)
        (as_before x words counts_on threads i v one_counted at (calls x) refl) (λ n h. h)
        (left_was x words counts_on threads i v one_counted at (word_kept x two words ((slice_index words x.sleepers + 1) % 18446744073709551616))
        (omega arith) (omega arith) refl refl)

    -- the count goes round
    pub is_overflowed : (n : ℕ) → IsServedYet x (slice_set words x.sleepers n) (set threads i (at_stage (Overflowed x.sleepers) v))
    is_overflowed n none =
        let one = on_here x.sleepers 1 in
        let more = after x words (slice_set words x.sleepers n) threads i v (at_stage (Overflowed x.sleepers) v) at (overflowed x) in
        absurd (omega arith)

  -- a thread isn't counted any more
  module _ (lies : x.sleepers < length words) (below : slice_index words x.sleepers < 2 ^ 64) where
    abbrev counts_back : List ℕ
    counts_back = slice_set words x.sleepers ((slice_index words x.sleepers + 18446744073709551615) % 18446744073709551616)

    -- what the last stage was
    last : (p : Stage) (rest : List Stage) → v.stages ≡ p ∷ rest → counted_in x.sleepers p ≡ 1 → overflowed_in x.sleepers p ≡ 0 → owing_in x.word p ≡ 0
        → IsServedYet x counts_back (set threads i (done v))
    last p rest is one no_overflow no_debt none =
        let count = over_last (counted_in x.sleepers) v.stages p rest is in
        let sleep = over_last (asleep_in x.sleepers) v.stages p rest is in
        let owed = over_last (owing_in x.word) v.stages p rest is in
        let over_it = over_last (overflowed_in x.sleepers) v.stages p rest is in
        let r = served counts_back (done v) (omega arith) none in
        let fewer = after x words counts_back threads i v (done v) at (counted x) in
        let some_counted = sum_at (counted x) threads i v at in
        let was = r.counted in
        let is_now = get_or-set_same words x.sleepers ((slice_index words x.sleepers + 18446744073709551615) % 18446744073709551616) 0 lies in
        left_before x words counts_back threads i v (done v) at r (omega arith) (pays_still x words counts_back threads i v (done v) at r refl refl)
        (as_before x words counts_back threads i v (done v) at (calls x) refl) (λ n h. h)
        (left_was x words counts_back threads i v (done v) at
        (word_kept x two words ((slice_index words x.sleepers + 18446744073709551615) % 18446744073709551616)) (omega arith) (omega arith) refl refl)

    pub comes_from_sleep : IsCountedIn x.sleepers v → IsServedYet x counts_back (set threads i (done v))
    comes_from_sleep is_in = ⊎_elim
        (λ e. last (Counted x.sleepers) is_in.0 e (on_here x.sleepers 1) refl refl)
        (λ e. last (Asleep x.sleepers) is_in.0 e (on_here x.sleepers 1) refl refl) is_in.1

  -- who is counted falls asleep, where the word lets nobody go
  pub falls_asleep : (ps : List Stage) → over (counted_in x.sleepers) ps ≡ counted x v → over (overflowed_in x.sleepers) ps ≡ overflowed x v
      → (lets_go x.is_lock (slice_index words x.word) → ⊥) → IsServedYet x words (set threads i (standing ps v))
  falls_asleep ps count over_it held none =
      let w = standing ps v in let r = served words w over_it none in
      none_left x words words threads i v w at r (r.counted ∙ sym (as_before x words words threads i v w at (counted x) count))
      (pays_still x words words threads i v w at r refl refl)
      (as_before x words words threads i v w at (calls x) refl) (r.stored i v at) (λ left. held left.goes)

  -- at a grant, and at a lock
  module _ (rest : List Stage) (is : v.stages ≡ Counted x.sleepers ∷ rest) (held : lets_go x.is_lock (slice_index words x.word) → ⊥) where
    pub sleeps_at_grant : IsServedYet x words (set threads i (sleeping v))
    sleeps_at_grant = falls_asleep (fallen_asleep v.stages)
        (let c = over_fallen (counted_in x.sleepers) v.stages x.sleepers rest is in omega arith)
        (let c = over_fallen (overflowed_in x.sleepers) v.stages x.sleepers rest is in omega arith) held

    pub sleeps_at_lock : (j : ℕ) → IsServedYet x words (set threads i (to_try j (sleeping v)))
    sleeps_at_lock j = falls_asleep (wanting j (fallen_asleep v.stages))
        (over_both_now (counted_in x.sleepers) v.stages x.sleepers j rest is refl
        ∙ (let c = over_fallen (counted_in x.sleepers) v.stages x.sleepers rest is in omega arith))
        (over_both_now (overflowed_in x.sleepers) v.stages x.sleepers j rest is refl
        ∙ (let c = over_fallen (overflowed_in x.sleepers) v.stages x.sleepers rest is in omega arith)) held

  -- a store at the word, whatever it stores: the thread owes a look
  pub owes_now : (n : ℕ) → IsServedYet x (slice_set words x.word n) (set threads i (owing_at x.word (suc (sum (calls x) threads)) v))
  owes_now n none =
      let next = slice_set words x.word n in let w = owing_at x.word (suc (sum (calls x) threads)) v in
      let r = served next w (omega arith) none in
      let one = on_here x.word 1 in
      let more = after x words next threads i v w at (owing x) in
      none_left x words next threads i v w at r
      (count_kept x two words n ∙ r.counted ∙ sym (as_before x words next threads i v w at (counted x) (omega arith)))
      (pays_still x words next threads i v w at r refl refl)
      (as_before x words next threads i v w at (calls x) refl) ((λ e. omega arith), r.stored i v at)
      (λ left. let u = left.unowed in absurd (omega arith))

  -- the same, and the wake-up is left to another
  pub passes_now : (n : ℕ) → IsServedYet x (slice_set words x.word n) (set threads i (passing_at x.word v))
  passes_now n none =
      let next = slice_set words x.word n in let w = passing_at x.word v in
      let r = served next w refl none in
      let one = on_here x.word 1 in
      let more = after x words next threads i v w at (passed x) in
      let pay = as_before x words next threads i v w at (paid x) refl in
      let was = r.taken in
      none_left x words next threads i v w at r
      (count_kept x two words n ∙ r.counted ∙ sym (as_before x words next threads i v w at (counted x) refl))
      (omega arith)
      (as_before x words next threads i v w at (calls x) refl) (r.stored i v at)
      (λ left. let u = left.taken in absurd (omega arith))

  -- a grant is taken: all that were passed there are
  pub takes_now : (n : ℕ) → (lets_go x.is_lock n → ⊥) → x.word < length words
      → IsServedYet x (slice_set words x.word n) (set threads i (paying_at x.word (sum (passed x) threads - sum (paid x) threads) v))
  takes_now n none_go lies none =
      let next = slice_set words x.word n in let w = paying_at x.word (sum (passed x) threads - sum (paid x) threads) v in
      let r = served next w refl none in
      let more = after x words next threads i v w at (paid x) in
      let one = on_here x.word (sum (passed x) threads - sum (paid x) threads) in
      let pass = as_before x words next threads i v w at (passed x) refl in
      let was = r.taken in
      none_left x words next threads i v w at r
      (count_kept x two words n ∙ r.counted ∙ sym (as_before x words next threads i v w at (counted x) refl))
      (omega arith)
      (as_before x words next threads i v w at (calls x) refl) (r.stored i v at)
      (λ left. none_go (subst (lets_go x.is_lock) (get_or-set_same words x.word n 0 lies) left.goes))

  -- who owes a call makes it
  pub calls_now : (rest : List Stage) → v.stages ≡ Owes x.word ∷ rest → IsServedYet x words (set threads i (having_called v))
  calls_now rest is none =
      let w = having_called v in
      let count = over_last (counted_in x.sleepers) v.stages (Owes x.word) rest is in
      let over_it = over_last (overflowed_in x.sleepers) v.stages (Owes x.word) rest is in
      let r = served words w (omega arith) none in
      let one = on_here x.word 1 in
      let called = ap (λ (l : List Stage). among x.word (called_at l v.calls)) is in
      let more = after x words words threads i v w at (calls x) in
      called_now x words words threads i v w at r (r.counted ∙ sym (as_before x words words threads i v w at (counted x) (omega arith)))
      (pays_still x words words threads i v w at r refl refl) (omega arith) refl

  -- who owes a call finds nobody left: the word lets nobody go, or nobody is counted
  pub owes_no_more : (rest : List Stage) → v.stages ≡ Owes x.word ∷ rest → (lets_go x.is_lock (slice_index words x.word) → slice_index words x.sleepers ≡ 0)
      → IsServedYet x words (set threads i (done v))
  owes_no_more rest is nobody none =
      let w = done v in
      let count = over_last (counted_in x.sleepers) v.stages (Owes x.word) rest is in
      let over_it = over_last (overflowed_in x.sleepers) v.stages (Owes x.word) rest is in
      let r = served words w (omega arith) none in
      let counts = r.counted ∙ sym (as_before x words words threads i v w at (counted x) (omega arith)) in
      none_left x words words threads i v w at r counts (pays_still x words words threads i v w at r refl refl)
      (as_before x words words threads i v w at (calls x) refl) (r.stored i v at)
      (λ left. let n = none_counted x (set threads i w) (sym counts ∙ nobody left.goes) in let s = left.asleep in absurd (omega arith))

-- a debt of a try counts nowhere
module _ (x : Futex) (v : Parking) where
  stages_same : (ps : List Stage) → ((f : Stage → ℕ) → ((j : ℕ) → f (Wants j) ≡ 0) → over f ps ≡ over f v.stages) → IsSameAt x v (standing ps v)
  stages_same ps same = record {
    counted = same (counted_in x.sleepers) (λ j. refl);
    asleep = same (asleep_in x.sleepers) (λ j. refl);
    owing = same (owing_in x.word) (λ j. refl);
    overflowed = same (overflowed_in x.sleepers) (λ j. refl);
    calls = refl;
    passed = refl;
    paid = refl;
    stored = λ n h. h;
  }

  pub to_try_same : (i j : ℕ) (rest : List Stage) → v.stages ≡ Counted i ∷ rest → IsSameAt x v (to_try j v)
  to_try_same i j rest is = stages_same (wanting j v.stages) (λ f none. over_wanting f v.stages i j rest is (none j))

  pub tried_same : (j : ℕ) (rest : List Stage) → v.stages ≡ Wants j ∷ rest → IsSameAt x v (standing rest v)
  tried_same j rest is = stages_same rest (λ f none. let a = ap (over f) is in let z = none j in omega arith)

-- the steps at x0 are none at another futex
module _ (x0 x : Futex) (apart : ShareNoWord x x0) (v : Parking) where
  -- a stage at x0
  pub record IsOther (p : Stage) : Type 0 where
    pub counted : counted_in x.sleepers p ≡ 0
    pub asleep : asleep_in x.sleepers p ≡ 0
    pub owing : owing_in x.word p ≡ 0
    pub overflowed : overflowed_in x.sleepers p ≡ 0

  pub other_counted : IsOther (Counted x0.sleepers)
  other_counted = record { counted = on_else x.sleepers x0.sleepers 1 apart.sleepers; asleep = refl; owing = refl; overflowed = refl }

  pub other_asleep : IsOther (Asleep x0.sleepers)
  other_asleep = record {
    counted = on_else x.sleepers x0.sleepers 1 apart.sleepers;
    asleep = on_else x.sleepers x0.sleepers 1 apart.sleepers;
    owing = refl;
    overflowed = refl;
  }

  pub other_owes : IsOther (Owes x0.word)
  other_owes = record { counted = refl; asleep = refl; owing = on_else x.word x0.word 1 apart.words; overflowed = refl }

  pub other_overflowed : IsOther (Overflowed x0.sleepers)
  other_overflowed = record { counted = refl; asleep = refl; owing = refl; overflowed = on_else x.sleepers x0.sleepers 1 apart.sleepers }

  pub stage_else : (p : Stage) → IsOther p → IsSameAt x v (at_stage p v)
  stage_else p o = let c = o.counted in let a = o.asleep in let b = o.owing in let d = o.overflowed in record {
    counted = omega arith;
    asleep = omega arith;
    owing = omega arith;
    overflowed = omega arith;
    calls = refl;
    passed = refl;
    paid = refl;
    stored = λ n h. h;
  }

  pub done_else : (p : Stage) (rest : List Stage) → v.stages ≡ p ∷ rest → IsOther p → IsSameAt x v (done v)
  done_else p rest is o =
      let c = o.counted in let a = o.asleep in let b = o.owing in let d = o.overflowed in
      let ec = over_last (counted_in x.sleepers) v.stages p rest is in let ea = over_last (asleep_in x.sleepers) v.stages p rest is in
      let eb = over_last (owing_in x.word) v.stages p rest is in let ed = over_last (overflowed_in x.sleepers) v.stages p rest is in record {
        counted = omega arith;
        asleep = omega arith;
        owing = omega arith;
        overflowed = omega arith;
        calls = refl;
        passed = refl;
        paid = refl;
        stored = λ n h. h;
      }

  pub sleeping_else : (rest : List Stage) → v.stages ≡ Counted x0.sleepers ∷ rest → IsSameAt x v (sleeping v)
  sleeping_else rest is =
      let n = on_else x.sleepers x0.sleepers 1 apart.sleepers in
      let ec = over_fallen (counted_in x.sleepers) v.stages x0.sleepers rest is in let ea = over_fallen (asleep_in x.sleepers) v.stages x0.sleepers rest is in
      let eb = over_fallen (owing_in x.word) v.stages x0.sleepers rest is in let ed = over_fallen (overflowed_in x.sleepers) v.stages x0.sleepers rest is in
      record {
        counted = omega arith;
        asleep = omega arith;
        owing = omega arith;
        overflowed = omega arith;
        calls = refl;
        passed = refl;
        paid = refl;
        stored = λ n h. h;
      }

  pub trying_else : (j : ℕ) (rest : List Stage) → v.stages ≡ Counted x0.sleepers ∷ rest → IsSameAt x v (to_try j (sleeping v))
  trying_else j rest is = let s = sleeping_else rest is in record {
    counted = over_both_now (counted_in x.sleepers) v.stages x0.sleepers j rest is refl ∙ s.counted;
    asleep = over_both_now (asleep_in x.sleepers) v.stages x0.sleepers j rest is refl ∙ s.asleep;
    owing = over_both_now (owing_in x.word) v.stages x0.sleepers j rest is refl ∙ s.owing;
    overflowed = over_both_now (overflowed_in x.sleepers) v.stages x0.sleepers j rest is refl ∙ s.overflowed;
    calls = refl;
    passed = refl;
    paid = refl;
    stored = λ n h. h;
  }

  pub called_else : (rest : List Stage) → v.stages ≡ Owes x0.word ∷ rest → IsSameAt x v (having_called v)
  called_else rest is =
      let d = done_else (Owes x0.word) rest is other_owes in
      let n = on_else x.word x0.word 1 apart.words in
      let called = ap (λ (l : List Stage). among x.word (called_at l v.calls)) is in record {
        counted = d.counted;
        asleep = d.asleep;
        owing = d.owing;
        overflowed = d.overflowed;
        calls = omega arith;
        passed = refl;
        paid = refl;
        stored = λ n h. h;
      }

  pub owing_else : (n : ℕ) → IsSameAt x v (owing_at x0.word n v)
  owing_else n = let d = stage_else (Owes x0.word) other_owes in record {
    counted = d.counted;
    asleep = d.asleep;
    owing = d.owing;
    overflowed = d.overflowed;
    calls = refl;
    passed = refl;
    paid = refl;
    stored = λ m h. ((λ e. absurd (apart.words (sym e))), h);
  }

  pub passing_else : IsSameAt x v (passing_at x0.word v)
  passing_else = let n = on_else x.word x0.word 1 apart.words in record {
    counted = refl;
    asleep = refl;
    owing = refl;
    overflowed = refl;
    calls = refl;
    passed = omega arith;
    paid = refl;
    stored = λ n h. h;
  }

  pub paying_else : (n : ℕ) → IsSameAt x v (paying_at x0.word n v)
  paying_else n = let z = on_else x.word x0.word n apart.words in record {
    counted = refl;
    asleep = refl;
    owing = refl;
    overflowed = refl;
    calls = refl;
    passed = refl;
    paid = omega arith;
    stored = λ n h. h;
  }
