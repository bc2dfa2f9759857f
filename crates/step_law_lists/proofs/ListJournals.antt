-- What the journal of a notify list tells of each ticket: it is granted or goes, never both.
use Rattle.std.proofs.Common.{◌≡◌, ℕ, suc, ◌+◌, ◌<◌, ◌≤◌, ◌⊎◌, Bool, cond, true, false, nat_lt, List, [], ◌∷◌, ◌++◌, length, append-nil, append_assoc}
use Rattle.std.proofs.Common.{refl, sym, ap, ◌∙◌, subst, inl, inr, arith}
use native.Mathlib.Decide.{ℕ_discrete}
use Rattle.std.proofs.lemmas.Bool.{cases_lt, lt-ltb, le-ltb}
use Rattle.step_table.specs.declared.list_place.ListEffect.{ListEffect}
use Rattle.step_table.specs.declared.list_place.ListEffect.TheVariants.{HandsOut, Grants, Forgoes}
use Rattle.step_table.specs.Counting.{on, among}
use Rattle.step_table.specs.ListWorld.{Numbers, ListEntry, Took, Granted, Forgone, journal_after, is_gone, with_gone, first_left, forgotten, passing}
use Rattle.step_law_lists.specs.ListLawful.{counted, replay, none_told, told, IsDefined, Follows, times_forgone, grants_it, granted_from, times_granted}
use Rattle.step_law_lists.specs.ListLawful.{EachOnce, IsNear, NeverFar, LeftInTime, IsInReach, leaves, last_from, last_granted}
use Rattle.step_table.proofs.Sums.{on_else, on_most, flip}
use Rattle.step_table.proofs.Skipping.{Within, Tells, gone_tells, skipped_from, skipped_gone, first_is_left, first_within, among_more, length_more, among_forgotten}

pub replay_append : (n : Numbers) (j es : List ListEntry) → replay n (j ++ es) ≡ replay (replay n j) es
replay_append n [] es = refl
replay_append n (e ∷ j) es = replay_append (counted e n) j es

-- the numbers after one entry more
pub told_more : (j : List ListEntry) (e : ListEntry) → told (j ++ e ∷ []) ≡ counted e (told j)
told_more j e = replay_append none_told j (e ∷ [])

pub handed_more : (es : List ListEntry) (n : Numbers) → n.handed ≤ (replay n es).handed
handed_more [] n = omega arith
handed_more (Took s ∷ es) n = let more = handed_more es (counted (Took s) n) in omega arith
handed_more (Granted u s ∷ es) n = let more = handed_more es (counted (Granted u s) n) in omega arith
handed_more (Forgone m s ∷ es) n = let more = handed_more es (counted (Forgone m s) n) in omega arith

pub last_or_before : (j before after : List ListEntry) (x e : ListEntry) → j ++ x ∷ [] ≡ before ++ e ∷ after
    → ((rest : List ListEntry) × (j ≡ before ++ e ∷ rest)) ⊎ ((before ≡ j) × (e ≡ x))
last_or_before [] [] after x e q = inr (refl, cc)
last_or_before [] (b ∷ []) after x e q = absurd cc
last_or_before [] (b ∷ b' ∷ bs) after x e q = absurd cc
last_or_before (y ∷ ys) [] after x e q = inl (ys, cc)
last_or_before (y ∷ ys) (b ∷ bs) after x e q = by (last_or_before ys bs after x e cc)
  where
    by : ((rest : List ListEntry) × (ys ≡ bs ++ e ∷ rest)) ⊎ ((bs ≡ ys) × (e ≡ x))
        → ((rest : List ListEntry) × (y ∷ ys ≡ b ∷ (bs ++ e ∷ rest))) ⊎ ((b ∷ bs ≡ y ∷ ys) × (e ≡ x))
    by (inl r) = let f = r.1 in inl (r.0, cc)
    by (inr r) = let f = r.0 in inr (cc, r.1)

-- what one entry adds to the leaves of a ticket, and what a row does
abbrev pub goes_in : ℕ → ListEntry → ℕ
goes_in n (Forgone m s) = on m n 1
goes_in n e = 0

abbrev pub goes_by : ℕ → ListEffect → ℕ
goes_by n (Forgoes w) = on w.id.turn n 1
goes_by n _ = 0

pub forgone_more : (n : ℕ) (j : List ListEntry) (e : ListEntry) → times_forgone n (j ++ e ∷ []) ≡ times_forgone n j + goes_in n e
forgone_more n [] (Took s) = refl
forgone_more n [] (Granted u s) = refl
forgone_more n [] (Forgone m s) = omega arith
forgone_more n (Took t ∷ j) e = forgone_more n j e
forgone_more n (Granted u t ∷ j) e = forgone_more n j e
forgone_more n (Forgone m t ∷ j) e = let rest = forgone_more n j e in omega arith

pub forgone_after : (n i : ℕ) (e : ListEffect) (j : List ListEntry) → times_forgone n (journal_after i e j) ≡ times_forgone n j + goes_by n e
forgone_after n i (HandsOut t) j = forgone_more n j (Took i)
forgone_after n i (Grants upto) j = forgone_more n j (Granted upto i)
forgone_after n i (Forgoes w) j = forgone_more n j (Forgone w.id.turn i)
forgone_after n i _ j = omega arith

granted_append : (st : Numbers) (n : ℕ) (j : List ListEntry) (e : ListEntry)
    → granted_from st n (j ++ e ∷ []) ≡ granted_from st n j + grants_it n e (replay st j)
granted_append st n [] e = omega arith
granted_append st n (x ∷ j) e = let rest = granted_append (counted x st) n j e in omega arith

-- what is granted stays so, and what has gone
granted_on : (st : Numbers) (n : ℕ) (j es : List ListEntry) → granted_from st n j ≤ granted_from st n (j ++ es)
granted_on st n [] es = omega arith
granted_on st n (x ∷ j) es = let rest = granted_on (counted x st) n j es in omega arith

pub granted_stays : (n : ℕ) (j es : List ListEntry) → times_granted n j ≤ times_granted n (j ++ es)
granted_stays n j es = granted_on none_told n j es

pub forgone_stays : (n : ℕ) (j es : List ListEntry) → times_forgone n j ≤ times_forgone n (j ++ es)
forgone_stays n [] es = omega arith
forgone_stays n (Took t ∷ j) es = forgone_stays n j es
forgone_stays n (Granted u t ∷ j) es = forgone_stays n j es
forgone_stays n (Forgone m t ∷ j) es = let rest = forgone_stays n j es in omega arith

pub granted_more : (n : ℕ) (j : List ListEntry) (e : ListEntry) → times_granted n (j ++ e ∷ []) ≡ times_granted n j + grants_it n e (told j)
granted_more n j e = granted_append none_told n j e

last_append : (upto : ℕ) (j : List ListEntry) (e : ListEntry) → last_from upto (j ++ e ∷ []) ≡ last_from (last_from upto j) (e ∷ [])
last_append upto [] e = refl
last_append upto (Took s ∷ j) e = last_append upto j e
last_append upto (Granted u s ∷ j) e = last_append u j e
last_append upto (Forgone m s ∷ j) e = last_append upto j e

pub last_more : (j : List ListEntry) (e : ListEntry) → last_granted (j ++ e ∷ []) ≡ last_from (last_granted j) (e ∷ [])
last_more j e = last_append 0 j e

pub leaves_grow : (j es : List ListEntry) → leaves j ≤ leaves (j ++ es)
leaves_grow [] es = omega arith
leaves_grow (Took t ∷ j) es = leaves_grow j es
leaves_grow (Granted u t ∷ j) es = leaves_grow j es
leaves_grow (Forgone m t ∷ j) es = let rest = leaves_grow j es in omega arith

-- no more tickets are gone than have gone
gone_fewer : (before : ℕ → Bool) (gone : List ℕ) → length (forgotten before gone) ≤ length gone
gone_fewer before [] = omega arith
gone_fewer before (m ∷ gone) = by (before m) (gone_fewer before gone)
  where
    by : (b : Bool) → length (forgotten before gone) ≤ length gone
        → length (cond b (forgotten before gone) (m ∷ forgotten before gone)) ≤ suc (length gone)
    by true rest = omega arith
    by false rest = omega arith

gone_leaves : (es : List ListEntry) (n : Numbers) → length (replay n es).gone ≤ length n.gone + leaves es
gone_leaves [] n = omega arith
gone_leaves (Took s ∷ es) n = gone_leaves es (counted (Took s) n)
gone_leaves (Granted u s ∷ es) n =
    let more = gone_leaves es (counted (Granted u s) n) in
    let fewer = gone_fewer (λ m. nat_lt m (first_left suc n.gone u)) n.gone in omega arith
gone_leaves (Forgone m s ∷ es) n =
    let more = gone_leaves es (counted (Forgone m s) n) in
    let fewer = gone_fewer (λ k. nat_lt k (first_left suc (with_gone nat_lt m n.gone) n.passed)) (with_gone nat_lt m n.gone) in
    let one = length_more nat_lt m n.gone in omega arith

pub few_gone : (j : List ListEntry) → length (told j).gone ≤ leaves j
few_gone j = let fewer = gone_leaves j none_told in omega arith

-- where tickets are passed from u on: no fewer than u; whatever is between is gone; the rest of the gone ones stay, and come later
pub passing_from : (handed u : ℕ) (gone : List ℕ) → u ≤ (passing handed u gone).passed
passing_from handed u gone = skipped_from (length gone) gone u

pub passing_between : (handed u n : ℕ) (gone : List ℕ) → u ≤ n → n < (passing handed u gone).passed → 0 < among n gone
passing_between handed u n gone le less = skipped_gone (length gone) gone u n le less

pub passing_rest : (handed u n : ℕ) (gone : List ℕ) → (passing handed u gone).passed ≤ n → among n (passing handed u gone).gone ≡ among n gone
passing_rest handed u n gone le = (among_forgotten (first_left suc gone u) n gone).1 le

pub passing_gone : (handed u n : ℕ) (gone : List ℕ) → 0 < among n (passing handed u gone).gone
    → ((passing handed u gone).passed < n) × (0 < among n gone)
passing_gone handed u n gone some = by (cases_lt n (first_left suc gone u)) (ℕ_discrete n (first_left suc gone u))
  where
    by : (n < first_left suc gone u) ⊎ (first_left suc gone u ≤ n) → Dec (n ≡ first_left suc gone u)
        → (first_left suc gone u < n) × (0 < among n gone)
    by (inl before) _ = absurd (let none = (among_forgotten (first_left suc gone u) n gone).0 before in omega arith)
    by (inr after) (no ne) = let same = passing_rest handed u n gone after in (omega arith, omega arith)
    by (inr after) (yes is) =
        absurd
        (let same = passing_rest handed u n gone after in
        let none = first_is_left gone u in let here = ap (λ m. among m gone) is in omega arith)

pub passing_within : (least handed u : ℕ) (gone : List ℕ) → Within least handed gone → u ≤ handed → (passing handed u gone).passed ≤ handed
passing_within least handed u gone within le = first_within least handed gone u within le

-- what is told of one ticket
abbrev OnceAt : ℕ → ℕ → ℕ → Numbers → Type 0
OnceAt n granted forgone numbers =
    (granted + forgone ≤ 1)
    × (n < numbers.passed → granted + forgone ≡ 1)
    × (numbers.passed ≤ n → (granted ≡ 0) × (forgone ≡ among n numbers.gone))

abbrev GoneAt : Numbers → Type 0
GoneAt numbers = (n : ℕ) → 0 < among n numbers.gone → (numbers.passed < n) × (n < numbers.handed)

-- an entry that is granted, or a ticket that goes
once_granted : (numbers : Numbers) (upto s n granted forgone : ℕ) → IsDefined (Granted upto s) numbers → GoneAt numbers
    → OnceAt n granted forgone numbers → OnceAt n (granted + grants_it n (Granted upto s) numbers) forgone (counted (Granted upto s) numbers)
once_granted numbers upto s n granted forgone defined gone at = by (cases_lt n numbers.passed)
  where
    new : Numbers
    new = passing numbers.handed upto numbers.gone

    now : ℕ
    now = grants_it n (Granted upto s) numbers

    most : granted + forgone ≤ 1
    most = at.0

    first : upto ≤ new.passed
    first = passing_from numbers.handed upto numbers.gone

    grown : numbers.passed < upto
    grown = defined.0

    by : (n < numbers.passed) ⊎ (numbers.passed ≤ n) → OnceAt n (granted + now) forgone new
    by (inl passed) =
        let one = at.1 passed in let none = ap (λ b. cond {A = ℕ} b 0 (cond {A = ℕ} (nat_lt n upto) (cond {A = ℕ} (is_gone n numbers.gone) 0 1) 0)) (lt-ltb n numbers.passed passed) in
        (omega arith, (λ l. omega arith), (λ le. absurd (let a = first in let b = grown in omega arith)))
    by (inr le) = below (cases_lt n upto)
      where
        was : (granted ≡ 0) × (forgone ≡ among n numbers.gone)
        was = at.2 le

        not_passed : now ≡ cond {A = ℕ} (nat_lt n upto) (cond {A = ℕ} (is_gone n numbers.gone) 0 1) 0
        not_passed = ap (λ b. cond {A = ℕ} b 0 (cond {A = ℕ} (nat_lt n upto) (cond {A = ℕ} (is_gone n numbers.gone) 0 1) 0)) (le-ltb n numbers.passed le)

        below : (n < upto) ⊎ (upto ≤ n) → OnceAt n (granted + now) forgone new
        below (inl less) = told_by (gone_tells n numbers.gone)
          where
            in_reach : now ≡ cond {A = ℕ} (is_gone n numbers.gone) 0 1
            in_reach = not_passed ∙ ap (λ b. cond {A = ℕ} b (cond {A = ℕ} (is_gone n numbers.gone) 0 1) 0) (lt-ltb n upto less)

            told_by : Tells n numbers.gone → OnceAt n (granted + now) forgone new
            told_by (inl is) =
                let none = in_reach ∙ ap (λ b. cond {A = ℕ} b 0 1) is.0 in let a = was.0 in let b = was.1 in let c = is.1 in
                (omega arith, (λ l. omega arith), (λ l. absurd (let f = first in omega arith)))
            told_by (inr is) =
                let one = in_reach ∙ ap (λ b. cond {A = ℕ} b 0 1) is.0 in let a = was.0 in let b = was.1 in let c = is.1 in
                (omega arith, (λ l. omega arith), (λ l. absurd (let f = first in omega arith)))
        below (inr after) =
            let none : now ≡ 0 = not_passed ∙ ap (λ b. cond {A = ℕ} b (cond {A = ℕ} (is_gone n numbers.gone) 0 1) 0) (le-ltb n upto after) in
            let a = was.0 in let b = was.1 in (
              omega arith,
              (λ l. let some = passing_between numbers.handed upto n numbers.gone after l in omega arith),
              (λ l. (omega arith, (let same = passing_rest numbers.handed upto n numbers.gone l in omega arith))),
            )

once_forgone : (numbers : Numbers) (m s n granted forgone : ℕ) → IsDefined (Forgone m s) numbers
    → OnceAt n granted forgone numbers → OnceAt n granted (forgone + on m n 1) (counted (Forgone m s) numbers)
once_forgone numbers m s n granted forgone defined at = by (cases_lt n numbers.passed)
  where
    gone : List ℕ
    gone = with_gone nat_lt m numbers.gone

    new : Numbers
    new = passing numbers.handed numbers.passed gone

    first : numbers.passed ≤ new.passed
    first = passing_from numbers.handed numbers.passed gone

    counts : among n gone ≡ among n numbers.gone + on m n 1
    counts = let more = among_more nat_lt n m numbers.gone in let same = flip n m 1 in omega arith

    by : (n < numbers.passed) ⊎ (numbers.passed ≤ n) → OnceAt n granted (forgone + on m n 1) new
    by (inl passed) =
        let one = at.1 passed in let most = at.0 in let least = defined.0 in let other = on_else m n 1 (λ e. omega arith) in
        (omega arith, (λ l. omega arith), (λ le. absurd (let f = first in omega arith)))
    by (inr le) =
        let none = a in let is = b in let all = counts in let most = once in (
          omega arith,
          (λ l. let some = passing_between numbers.handed numbers.passed n gone le l in omega arith),
          (λ l. (none, (let same = passing_rest numbers.handed numbers.passed n gone l in omega arith))),
        )
      where
        a : granted ≡ 0
        a = (at.2 le).0

        b : forgone ≡ among n numbers.gone
        b = (at.2 le).1

        once : granted + (forgone + on m n 1) ≤ 1
        once = apart (ℕ_discrete m n)
          where
            apart : Dec (m ≡ n) → granted + (forgone + on m n 1) ≤ 1
            apart (yes is) = let zero_granted = a in let was = b in let none = defined.2 in let same = ap (λ k. among k numbers.gone) is in let one = on_most m n 1 in omega arith
            apart (no ne) = let zero_granted = a in let off = on_else m n 1 ne in let most = at.0 in omega arith

gone_granted : (numbers : Numbers) (upto s : ℕ) → GoneAt numbers → GoneAt (counted (Granted upto s) numbers)
gone_granted numbers upto s gone n some =
    let is = passing_gone numbers.handed upto n numbers.gone some in (is.0, (gone n is.1).1)

gone_forgone : (numbers : Numbers) (m s : ℕ) → IsDefined (Forgone m s) numbers → GoneAt numbers → GoneAt (counted (Forgone m s) numbers)
gone_forgone numbers m s defined gone n some = (is.0, by (cases_lt 0 (among n numbers.gone)) (ℕ_discrete n m))
  where
    is : ((counted (Forgone m s) numbers).passed < n) × (0 < among n (with_gone nat_lt m numbers.gone))
    is = passing_gone numbers.handed numbers.passed n (with_gone nat_lt m numbers.gone) some

    by : (0 < among n numbers.gone) ⊎ (among n numbers.gone ≤ 0) → Dec (n ≡ m) → n < numbers.handed
    by (inl before) _ = (gone n before).1
    by (inr none) (yes e) = let handed = defined.1 in omega arith
    by (inr none) (no ne) = absurd (let more = among_more nat_lt n m numbers.gone in let off = on_else n m 1 ne in let positive = is.1 in omega arith)

pub within_more : (least handed m : ℕ) (gone : List ℕ) → Within least handed gone → least ≤ m → m < handed → Within least handed (with_gone nat_lt m gone)
within_more least handed m gone within le less n some = by (cases_lt 0 (among n gone)) (ℕ_discrete n m)
  where
    by : (0 < among n gone) ⊎ (among n gone ≤ 0) → Dec (n ≡ m) → (least ≤ n) × (n < handed)
    by (inl before) _ = within n before
    by (inr none) (yes e) = (omega arith, omega arith)
    by (inr none) (no ne) = absurd (let more = among_more nat_lt n m gone in let off = on_else n m 1 ne in omega arith)

once_more : (j : List ListEntry) (e : ListEntry) → EachOnce j → IsDefined e (told j) → EachOnce (j ++ e ∷ [])
once_more j (Took s) each defined =
    let is = told_more j (Took s) in
    let passed = ap (λ (n : Numbers). n.passed) is in let handed = ap (λ (n : Numbers). n.handed) is in
    let gone = ap (λ (n : Numbers). n.gone) is in
    record {
      once = λ n. (let a = granted_more n j (Took s) in let b = forgone_more n j (Took s) in let c = each.once n in omega arith);
      passed = λ n l. (let a = granted_more n j (Took s) in let b = forgone_more n j (Took s) in let c = each.passed n (omega arith) in omega arith);
      waiting = λ n l.
          (let a = granted_more n j (Took s) in let b = forgone_more n j (Took s) in
          let c = each.waiting n (omega arith) in let d = c.0 in let f = c.1 in let same = ap (among n) gone in (omega arith, omega arith));
      gone = λ n some. (let same = ap (among n) gone in let c = each.gone n (omega arith) in let d = c.0 in let f = c.1 in (omega arith, omega arith));
      order = (let le = each.order in omega arith);
    }
once_more j (Granted upto s) each defined =
    let to_passed = passed in let to_handed = handed in let stays = same_handed in
    record {
      once = λ n. (let a = granted_more n j (Granted upto s) in let b = forgone_more n j (Granted upto s) in let c = (at n).0 in omega arith);
      passed = λ n l.
          (let a = granted_more n j (Granted upto s) in let b = forgone_more n j (Granted upto s) in let c = (at n).1 (omega arith) in omega arith);
      waiting = λ n l.
          (let a = granted_more n j (Granted upto s) in let b = forgone_more n j (Granted upto s) in
          let c = (at n).2 (omega arith) in let d = c.0 in let f = c.1 in let same = ap (λ (n' : Numbers). among n n'.gone) is in (omega arith, omega arith));
      gone = λ n some.
          (let same = ap (λ (n' : Numbers). among n n'.gone) is in
          let c = gone_granted (told j) upto s each.gone n (omega arith) in let d = c.0 in let f = c.1 in (omega arith, omega arith));
      order = (let le : (counted (Granted upto s) (told j)).passed ≤ (told j).handed = passing_within (told j).passed (told j).handed upto (told j).gone (λ n some. let c = each.gone n some in let d = c.0 in (omega arith, c.1)) defined.1 in omega arith);
    }
  where
    is : told (j ++ Granted upto s ∷ []) ≡ counted (Granted upto s) (told j)
    is = told_more j (Granted upto s)

    passed : (told (j ++ Granted upto s ∷ [])).passed ≡ (counted (Granted upto s) (told j)).passed
    passed = ap (λ (n : Numbers). n.passed) is

    handed : (told (j ++ Granted upto s ∷ [])).handed ≡ (counted (Granted upto s) (told j)).handed
    handed = ap (λ (n : Numbers). n.handed) is

    same_handed : (counted (Granted upto s) (told j)).handed ≡ (told j).handed
    same_handed = refl

    at : (n : ℕ) → OnceAt n (times_granted n j + grants_it n (Granted upto s) (told j)) (times_forgone n j) (counted (Granted upto s) (told j))
    at n = once_granted (told j) upto s n (times_granted n j) (times_forgone n j) defined each.gone (each.once n, each.passed n, each.waiting n)
once_more j (Forgone m s) each defined =
    let to_passed = passed in let to_handed = handed in let stays = same_handed in
    record {
      once = λ n. (let a = granted_more n j (Forgone m s) in let b = forgone_more n j (Forgone m s) in let c = (at n).0 in omega arith);
      passed = λ n l.
          (let a = granted_more n j (Forgone m s) in let b = forgone_more n j (Forgone m s) in let c = (at n).1 (omega arith) in omega arith);
      waiting = λ n l.
          (let a = granted_more n j (Forgone m s) in let b = forgone_more n j (Forgone m s) in
          let c = (at n).2 (omega arith) in let d = c.0 in let f = c.1 in let same = ap (λ (n' : Numbers). among n n'.gone) is in (omega arith, omega arith));
      gone = λ n some.
          (let same = ap (λ (n' : Numbers). among n n'.gone) is in
          let c = gone_forgone (told j) m s defined each.gone n (omega arith) in let d = c.0 in let f = c.1 in (omega arith, omega arith));
      order = (let le : (counted (Forgone m s) (told j)).passed ≤ (told j).handed = passing_within (told j).passed (told j).handed (told j).passed (with_gone nat_lt m (told j).gone)
          (within_more (told j).passed (told j).handed m (told j).gone (λ n some. let c = each.gone n some in let d = c.0 in (omega arith, c.1)) defined.0 defined.1)
          each.order in omega arith);
    }
  where
    is : told (j ++ Forgone m s ∷ []) ≡ counted (Forgone m s) (told j)
    is = told_more j (Forgone m s)

    passed : (told (j ++ Forgone m s ∷ [])).passed ≡ (counted (Forgone m s) (told j)).passed
    passed = ap (λ (n : Numbers). n.passed) is

    handed : (told (j ++ Forgone m s ∷ [])).handed ≡ (counted (Forgone m s) (told j)).handed
    handed = ap (λ (n : Numbers). n.handed) is

    same_handed : (counted (Forgone m s) (told j)).handed ≡ (told j).handed
    same_handed = refl

    at : (n : ℕ) → OnceAt n (times_granted n j) (times_forgone n j + on m n 1) (counted (Forgone m s) (told j))
    at n = once_forgone (told j) m s n (times_granted n j) (times_forgone n j) defined (each.once n, each.passed n, each.waiting n)

none_once : EachOnce []
none_once = record {
  once = λ n. omega arith;
  passed = λ n l. absurd (omega arith);
  waiting = λ n l. (refl, refl);
  gone = λ n some. absurd (omega arith);
  order = omega arith;
}

once_on : (before after : List ListEntry) → EachOnce before → Follows (before ++ after) → EachOnce (before ++ after)
once_on before [] each follows = subst EachOnce (sym (append-nil before)) each
once_on before (e ∷ after) each follows =
    let is = append_assoc before (e ∷ []) after in
    subst EachOnce is
    (once_on (before ++ e ∷ []) after (once_more before e each (follows before after e refl)) (subst Follows (sym is) follows))

-- a lawful journal tells each ticket once
pub each_once : (j : List ListEntry) → Follows j → EachOnce j
each_once j follows = once_on [] j none_once follows

-- what holds of a journal holds of each beginning of it
pub near_before : (before after : List ListEntry) → NeverFar (before ++ after) → NeverFar before
near_before before after near a b is = near a (b ++ after) (ap (λ j. j ++ after) is ∙ append_assoc a b after)

pub in_time_before : (before after : List ListEntry) → LeftInTime (before ++ after) → LeftInTime before
in_time_before before after in_time a b n k is =
    in_time a (b ++ after) n k (ap (λ j. j ++ after) is ∙ append_assoc a (Forgone n k ∷ b) after)

pub reach_before : (before after : List ListEntry) → IsInReach (before ++ after) → IsInReach before
reach_before before after reach =
    record { near = near_before before after reach.near; in_time = in_time_before before after reach.in_time }

-- what a journal that is in reach asks of its numbers
pub near_here : (j : List ListEntry) → IsInReach j → IsNear (told j)
near_here j reach = reach.near j [] (sym (append-nil j))

-- a beginning of a journal with one entry more is all of it, or a beginning of the journal before
all_or_before : (j before after : List ListEntry) (x : ListEntry) → j ++ x ∷ [] ≡ before ++ after
    → ((rest : List ListEntry) × (j ≡ before ++ rest)) ⊎ (before ≡ j ++ x ∷ [])
all_or_before j before [] x q = inr (sym (append-nil before) ∙ sym q)
all_or_before j before (e ∷ after) x q = by (last_or_before j before after x e q)
  where
    by : ((rest : List ListEntry) × (j ≡ before ++ e ∷ rest)) ⊎ ((before ≡ j) × (e ≡ x))
        → ((rest : List ListEntry) × (j ≡ before ++ rest)) ⊎ (before ≡ j ++ x ∷ [])
    by (inl r) = inl (e ∷ r.0, r.1)
    by (inr r) = inl ([], sym r.0 ∙ sym (append-nil before))

pub near_more : (j : List ListEntry) (x : ListEntry) → NeverFar j → IsNear (told (j ++ x ∷ [])) → NeverFar (j ++ x ∷ [])
near_more j x near here before after q = by (all_or_before j before after x q)
  where
    by : ((rest : List ListEntry) × (j ≡ before ++ rest)) ⊎ (before ≡ j ++ x ∷ []) → IsNear (told before)
    by (inl r) = near before r.0 r.1
    by (inr r) = subst (λ b. IsNear (told b)) (sym r) here

pub in_time_more : (j : List ListEntry) (x : ListEntry) → LeftInTime j → ((n k : ℕ) → Forgone n k ≡ x → (told j).passed ≤ n)
    → LeftInTime (j ++ x ∷ [])
in_time_more j x in_time here before after n k q = by (last_or_before j before after x (Forgone n k) q)
  where
    by : ((rest : List ListEntry) × (j ≡ before ++ Forgone n k ∷ rest)) ⊎ ((before ≡ j) × (Forgone n k ≡ x)) → (told before).passed ≤ n
    by (inl r) = in_time before r.0 n k r.1
    by (inr r) = let is = ap (λ b. (told b).passed) r.0 in let le = here n k r.1 in omega arith

-- a journal only grows
pub grows_by : (i : ℕ) (e : ListEffect) (j : List ListEntry)
    → (journal_after i e j ≡ j) ⊎ ((x : ListEntry) × (journal_after i e j ≡ j ++ x ∷ []))
grows_by i (HandsOut t) j = inr (Took i, refl)
grows_by i (Grants upto) j = inr (Granted upto i, refl)
grows_by i (Forgoes w) j = inr (Forgone w.id.turn i, refl)
grows_by i _ j = inl refl
