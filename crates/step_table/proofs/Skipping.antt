-- Gone tickets that are passed over, by their numbers and by their words.
use Rattle.std.proofs.Common.{◌≡◌, ℕ, zero, suc, ◌+◌, ◌<◌, ◌≤◌, ◌≢◌, ◌⊎◌, ◌||◌, if◌then◌else◌, Bool, true, false, cond, eqb, nat_lt}
use Rattle.std.proofs.Common.{List, [], ◌∷◌, map, length, refl, sym, ap, ◌∙◌, inl, inr, arith}
use Rattle.std.proofs.lemmas.Bool.{cases_lt, lt-ltb, le-ltb}
use Rattle.std.proofs.lemmas.Bool.Decides.{eqb_tells}
use Rattle.step_table.specs.Counting.{on, among}
use Rattle.step_table.specs.Wrapping.{word_of, next_word, less}
use Rattle.step_table.specs.ListWorld.{is_gone, with_gone, skipped, first_left, forgotten}
use Rattle.step_table.proofs.Sums.{on_here, on_else}
use Rattle.step_table.proofs.Wrapping.{word_next, word_near, less_word, not_less_word}

-- it is told of a number whether it is gone
abbrev pub Tells : ℕ → List ℕ → Type 0
Tells n gone = ((is_gone n gone ≡ true) × (0 < among n gone)) ⊎ ((is_gone n gone ≡ false) × (among n gone ≡ 0))

pub gone_tells : (n : ℕ) (gone : List ℕ) → Tells n gone
gone_tells n [] = inr (refl, refl)
gone_tells n (m ∷ gone) = by (eqb_tells n m) (gone_tells n gone)
  where
    by : ((eqb n m ≡ true) × (n ≡ m)) ⊎ ((eqb n m ≡ false) × (n ≢ m)) → Tells n gone → Tells n (m ∷ gone)
    by (inl e) rest =
        let here : on n m 1 ≡ 1 = ap (λ x. on n x 1) (sym e.1) ∙ on_here n 1 in
        inl (ap (λ b. b || is_gone n gone) e.0, omega arith)
    by (inr e) (inl r) = let some = r.1 in inl (ap (λ b. b || is_gone n gone) e.0 ∙ r.0, omega arith)
    by (inr e) (inr r) = let off = on_else n m 1 e.1 in let none = r.1 in inr (ap (λ b. b || is_gone n gone) e.0 ∙ r.0, omega arith)

-- how many of them are at least n
abbrev at_least : ℕ → List ℕ → ℕ
at_least n [] = 0
at_least n (m ∷ gone) = cond {A = ℕ} (nat_lt m n) 0 1 + at_least n gone

one_more : (b : Bool) → cond {A = ℕ} b 0 1 ≤ 1
one_more true = omega arith
one_more false = omega arith

at_least_all : (n : ℕ) (gone : List ℕ) → at_least n gone ≤ length gone
at_least_all n [] = omega arith
at_least_all n (m ∷ gone) = let rest = at_least_all n gone in let one = one_more (nat_lt m n) in omega arith

at_least_falls : (n : ℕ) (gone : List ℕ) → at_least (suc n) gone ≤ at_least n gone
at_least_falls n [] = omega arith
at_least_falls n (m ∷ gone) = by (cases_lt m n) (at_least_falls n gone)
  where
    by : (m < n) ⊎ (n ≤ m) → at_least (suc n) gone ≤ at_least n gone → cond {A = ℕ} (nat_lt m (suc n)) 0 1 + at_least (suc n) gone ≤ cond {A = ℕ} (nat_lt m n) 0 1 + at_least n gone
    by (inl l) rest =
        let a = ap (λ b. cond {A = ℕ} b 0 1) (lt-ltb m n l) in let b = ap (λ b. cond {A = ℕ} b 0 1) (lt-ltb m (suc n) (omega arith)) in omega arith
    by (inr l) rest = let a = ap (λ b. cond {A = ℕ} b 0 1) (le-ltb m n l) in let b = one_more (nat_lt m (suc n)) in omega arith

at_least_less : (n : ℕ) (gone : List ℕ) → 0 < among n gone → at_least (suc n) gone < at_least n gone
at_least_less n [] some = absurd (omega arith)
at_least_less n (m ∷ gone) some = by (eqb_tells n m) (at_least_less n gone)
  where
    by : ((eqb n m ≡ true) × (n ≡ m)) ⊎ ((eqb n m ≡ false) × (n ≢ m)) → (0 < among n gone → at_least (suc n) gone < at_least n gone)
        → cond {A = ℕ} (nat_lt m (suc n)) 0 1 + at_least (suc n) gone < cond {A = ℕ} (nat_lt m n) 0 1 + at_least n gone
    by (inl e) less =
        let is = e.1 in
        let a = ap (λ b. cond {A = ℕ} b 0 1) (le-ltb m n (omega arith)) in
        let b = ap (λ b. cond {A = ℕ} b 0 1) (lt-ltb m (suc n) (omega arith)) in
        let rest = at_least_falls n gone in omega arith
    by (inr e) less = let off = on_else n m 1 e.1 in let rest = less (omega arith) in at (cases_lt m n) rest
      where
        at : (m < n) ⊎ (n ≤ m) → at_least (suc n) gone < at_least n gone
            → cond {A = ℕ} (nat_lt m (suc n)) 0 1 + at_least (suc n) gone < cond {A = ℕ} (nat_lt m n) 0 1 + at_least n gone
        at (inl l) rest =
            let a = ap (λ b. cond {A = ℕ} b 0 1) (lt-ltb m n l) in
            let b = ap (λ b. cond {A = ℕ} b 0 1) (lt-ltb m (suc n) (omega arith)) in omega arith
        at (inr l) rest =
            let a = ap (λ b. cond {A = ℕ} b 0 1) (le-ltb m n l) in let b = one_more (nat_lt m (suc n)) in omega arith

-- what was looked for comes after what it was looked for from
pub skipped_from : (steps : ℕ) (gone : List ℕ) (n : ℕ) → n ≤ skipped suc steps gone n
skipped_from zero gone n = omega arith
skipped_from (suc steps) gone n = by (is_gone n gone) (skipped_from steps gone (suc n))
  where
    by : (b : Bool) → suc n ≤ skipped suc steps gone (suc n) → n ≤ (if b then skipped suc steps gone (suc n) else n)
    by true rest = omega arith
    by false rest = omega arith

-- whatever lies between is gone
pub skipped_gone : (steps : ℕ) (gone : List ℕ) (n m : ℕ) → n ≤ m → m < skipped suc steps gone n → 0 < among m gone
skipped_gone zero gone n m le less = absurd (omega arith)
skipped_gone (suc steps) gone n m le less = by (gone_tells n gone) (skipped_gone steps gone (suc n) m) less
  where
    by : Tells n gone → (suc n ≤ m → m < skipped suc steps gone (suc n) → 0 < among m gone)
        → m < (if is_gone n gone then skipped suc steps gone (suc n) else n) → 0 < among m gone
    by (inl r) rest = rw r.0 (λ less. at r.1 less (cases_lt n m))
      where
        at : 0 < among n gone → m < skipped suc steps gone (suc n) → (n < m) ⊎ (m ≤ n) → 0 < among m gone
        at some less (inl after) = rest (omega arith) less
        at some less (inr here) = let is : m ≡ n = omega arith in let same = ap (λ x. among x gone) is in omega arith
    by (inr r) rest = rw r.0 (λ less. absurd (omega arith))

-- what is found isn't gone, where so many steps are made as there are gone ones
skipped_left : (steps : ℕ) (gone : List ℕ) (n : ℕ) → at_least n gone ≤ steps → among (skipped suc steps gone n) gone ≡ 0
skipped_left zero gone n few = by (gone_tells n gone)
  where
    by : Tells n gone → among n gone ≡ 0
    by (inl r) = absurd (let less = at_least_less n gone r.1 in omega arith)
    by (inr r) = r.1
skipped_left (suc steps) gone n few = by (gone_tells n gone) (skipped_left steps gone (suc n))
  where
    by : Tells n gone → (at_least (suc n) gone ≤ steps → among (skipped suc steps gone (suc n)) gone ≡ 0)
        → among (if is_gone n gone then skipped suc steps gone (suc n) else n) gone ≡ 0
    by (inl r) rest = rw r.0 (let less = at_least_less n gone r.1 in rest (omega arith))
    by (inr r) rest = rw r.0 r.1

pub first_is_left : (gone : List ℕ) (n : ℕ) → among (first_left suc gone n) gone ≡ 0
first_is_left gone n = skipped_left (length gone) gone n (at_least_all n gone)

-- each of the numbers is at least the one, and below the other
abbrev pub Within : ℕ → ℕ → List ℕ → Type 0
Within least end gone = (m : ℕ) → 0 < among m gone → (least ≤ m) × (m < end)

within_rest : (least end m : ℕ) (gone : List ℕ) → Within least end (m ∷ gone) → Within least end gone
within_rest least end m gone within n some = within n (omega arith)

within_first : (least end m : ℕ) (gone : List ℕ) → Within least end (m ∷ gone) → (least ≤ m) × (m < end)
within_first least end m gone within = let here = on_here m 1 in within m (omega arith)

-- none of them is passed, nor the end
pub first_within : (least end : ℕ) (gone : List ℕ) (n : ℕ) → Within least end gone → n ≤ end → first_left suc gone n ≤ end
first_within least end gone n within le = by (cases_lt end (first_left suc gone n))
  where
    by : (end < first_left suc gone n) ⊎ (first_left suc gone n ≤ end) → first_left suc gone n ≤ end
    by (inl after) = absurd (let last = (within end (skipped_gone (length gone) gone n end le after)).1 in omega arith)
    by (inr before) = before

-- where nothing is gone that comes after n, nothing is skipped
pub none_skipped : (gone : List ℕ) (n : ℕ) → among n gone ≡ 0 → first_left suc gone n ≡ n
none_skipped gone n none = by (cases_lt n (first_left suc gone n))
  where
    by : (n < first_left suc gone n) ⊎ (first_left suc gone n ≤ n) → first_left suc gone n ≡ n
    by (inl after) = absurd (let some = skipped_gone (length gone) gone n n (omega arith) after in omega arith)
    by (inr before) = let least = skipped_from (length gone) gone n in omega arith

-- one more is counted once, wherever it stands
pub among_more : (before : ℕ → ℕ → Bool) (n m : ℕ) (gone : List ℕ) → among n (with_gone before m gone) ≡ among n gone + on n m 1
among_more before n m [] = omega arith
among_more before n m (x ∷ gone) = by (before m x) (among_more before n m gone)
  where
    by : (b : Bool) → among n (with_gone before m gone) ≡ among n gone + on n m 1
        → among n (if b then m ∷ x ∷ gone else x ∷ with_gone before m gone) ≡ on n x 1 + among n gone + on n m 1
    by true rest = omega arith
    by false rest = omega arith

pub length_more : (before : ℕ → ℕ → Bool) (m : ℕ) (gone : List ℕ) → length (with_gone before m gone) ≡ length gone + 1
length_more before m [] = refl
length_more before m (x ∷ gone) = by (before m x) (length_more before m gone)
  where
    by : (b : Bool) → length (with_gone before m gone) ≡ length gone + 1
        → length (if b then m ∷ x ∷ gone else x ∷ with_gone before m gone) ≡ suc (length gone) + 1
    by true rest = omega arith
    by false rest = omega arith

-- those that come before p are forgotten, and no others
pub among_forgotten : (p n : ℕ) (gone : List ℕ)
    → (n < p → among n (forgotten (λ m. nat_lt m p) gone) ≡ 0) × (p ≤ n → among n (forgotten (λ m. nat_lt m p) gone) ≡ among n gone)
among_forgotten p n [] = ((λ before. refl), (λ after. refl))
among_forgotten p n (m ∷ gone) = by (cases_lt m p) (among_forgotten p n gone)
  where
    Rest : List ℕ → Type 0
    Rest l = (n < p → among n l ≡ 0) × (p ≤ n → among n l ≡ among n gone)

    by : (m < p) ⊎ (p ≤ m) → Rest (forgotten (λ m. nat_lt m p) gone)
        → let l : List ℕ = (if nat_lt m p then forgotten (λ m. nat_lt m p) gone else m ∷ forgotten (λ m. nat_lt m p) gone) in
        (n < p → among n l ≡ 0) × (p ≤ n → among n l ≡ on n m 1 + among n gone)
    by (inl before) rest =
        rw (lt-ltb m p before) (rest.0, (λ after. let off = on_else n m 1 (λ e. omega arith) in let same = rest.1 after in omega arith))
    by (inr after) rest = rw (le-ltb m p after) (
      (λ before. let off = on_else n m 1 (λ e. omega arith) in let none = rest.0 before in omega arith),
      (λ le. let same = rest.1 le in omega arith),
    )

-- one more stands at the same place among the words
pub words_more : (first m least end : ℕ) (gone : List ℕ) → Within least end gone → end ≤ least + 9223372036854775808 → least ≤ m → m < end
    → map (word_of first) (with_gone nat_lt m gone) ≡ with_gone less (word_of first m) (map (word_of first) gone)
words_more first m least end [] within few least_m m_end = refl
words_more first m least end (x ∷ gone) within few least_m m_end =
    by (cases_lt m x) (words_more first m least end gone (within_rest least end x gone within) few least_m m_end)
  where
    here : (least ≤ x) × (x < end)
    here = within_first least end x gone within

    by : (m < x) ⊎ (x ≤ m)
        → map (word_of first) (with_gone nat_lt m gone) ≡ with_gone less (word_of first m) (map (word_of first) gone)
        → map (word_of first) (if nat_lt m x then m ∷ x ∷ gone else x ∷ with_gone nat_lt m gone)
        ≡ (if less (word_of first m) (word_of first x) then word_of first m ∷ word_of first x ∷ map (word_of first) gone
        else word_of first x ∷ with_gone less (word_of first m) (map (word_of first) gone))
    by (inl before) rest = let a = here.1 in rw (less_word first m x before (omega arith)) (rw (lt-ltb m x before) refl)
    by (inr after) rest =
        let a = here.0 in rw (not_less_word first m x after (omega arith)) (rw (le-ltb m x after) (ap (λ l. word_of first x ∷ l) rest))

pub words_length : (first : ℕ) (gone : List ℕ) → length (map (word_of first) gone) ≡ length gone
words_length first [] = refl
words_length first (m ∷ gone) = ap suc (words_length first gone)

near : (first n m least end : ℕ) → end ≤ least + 9223372036854775808 → least ≤ n → n ≤ end → least ≤ m → m < end
    → eqb (word_of first n) (word_of first m) ≡ eqb n m
near first n m least end few n_least n_end m_least m_end = by (eqb_tells n m) (eqb_tells (word_of first n) (word_of first m)) (cases_lt n m)
  where
    Words : Type 0
    Words = ((eqb (word_of first n) (word_of first m) ≡ true) × (word_of first n ≡ word_of first m))
        ⊎ ((eqb (word_of first n) (word_of first m) ≡ false) × (word_of first n ≢ word_of first m))

    by : ((eqb n m ≡ true) × (n ≡ m)) ⊎ ((eqb n m ≡ false) × (n ≢ m)) → Words → (n < m) ⊎ (m ≤ n) → eqb (word_of first n) (word_of first m) ≡ eqb n m
    by (inl e) (inl f) order = f.0 ∙ sym e.0
    by (inl e) (inr f) order = absurd (f.1 (ap (word_of first) e.1))
    by (inr e) (inl f) (inl l) = absurd (e.1 (word_near first n m f.1 (omega arith) (omega arith)))
    by (inr e) (inl f) (inr l) = absurd (e.1 (sym (word_near first m n (sym f.1) l (omega arith))))
    by (inr e) (inr f) order = f.0 ∙ sym e.0

-- a ticket is gone by its word where it is by its number
pub gone_word : (first least end : ℕ) (gone : List ℕ) (n : ℕ) → Within least end gone → end ≤ least + 9223372036854775808 → least ≤ n → n ≤ end
    → is_gone (word_of first n) (map (word_of first) gone) ≡ is_gone n gone
gone_word first least end [] n within few least_n end_n = refl
gone_word first least end (m ∷ gone) n within few least_n end_n =
    let here = within_first least end m gone within in
    let e = near first n m least end few least_n end_n here.0 here.1 in
    let rest = gone_word first least end gone n (within_rest least end m gone within) few least_n end_n in
    λ j. e j || rest j

-- the same tickets are skipped by their words
pub skipped_words : (first steps least end : ℕ) (gone : List ℕ) (n : ℕ) → Within least end gone → end ≤ least + 9223372036854775808
    → least ≤ n → n ≤ end
    → skipped next_word steps (map (word_of first) gone) (word_of first n) ≡ word_of first (skipped suc steps gone n)
skipped_words first zero least end gone n within few least_n end_n = refl
skipped_words first (suc steps) least end gone n within few least_n end_n =
    by (gone_tells n gone) (gone_word first least end gone n within few least_n end_n) (skipped_words first steps least end gone (suc n) within few)
  where
    by : Tells n gone → is_gone (word_of first n) (map (word_of first) gone) ≡ is_gone n gone
        → (least ≤ suc n → suc n ≤ end
        → skipped next_word steps (map (word_of first) gone) (word_of first (suc n)) ≡ word_of first (skipped suc steps gone (suc n)))
        → (if is_gone (word_of first n) (map (word_of first) gone) then skipped next_word steps (map (word_of first) gone) (next_word (word_of first n))
        else word_of first n)
        ≡ word_of first (if is_gone n gone then skipped suc steps gone (suc n) else n)
    by (inl r) same more =
        let last = (within n r.1).1 in
        let rest = more (omega arith) (omega arith) in
        rw same (rw r.0
        (ap (skipped next_word steps (map (word_of first) gone)) (word_next first n ∙ ap (word_of first) (omega arith)) ∙ rest))
    by (inr r) same more = rw same (rw r.0 refl)

pub first_word : (first least end : ℕ) (gone : List ℕ) (n : ℕ) → Within least end gone → end ≤ least + 9223372036854775808
    → least ≤ n → n ≤ end → first_left next_word (map (word_of first) gone) (word_of first n) ≡ word_of first (first_left suc gone n)
first_word first least end gone n within few least_n end_n =
    ap (λ steps. skipped next_word steps (map (word_of first) gone) (word_of first n)) (words_length first gone)
    ∙ skipped_words first (length gone) least end gone n within few least_n end_n

-- and the same are forgotten
pub forgotten_words : (first p least end : ℕ) (gone : List ℕ) → Within least end gone → end ≤ least + 9223372036854775808 → least ≤ p → p ≤ end
    → forgotten (λ w. less w (word_of first p)) (map (word_of first) gone) ≡ map (word_of first) (forgotten (λ m. nat_lt m p) gone)
forgotten_words first p least end [] within few least_p end_p = refl
forgotten_words first p least end (m ∷ gone) within few least_p end_p =
    by (cases_lt m p) (forgotten_words first p least end gone (within_rest least end m gone within) few least_p end_p)
  where
    here : (least ≤ m) × (m < end)
    here = within_first least end m gone within

    numbers : List ℕ
    numbers = forgotten (λ m. nat_lt m p) gone

    words : List ℕ
    words = forgotten (λ w. less w (word_of first p)) (map (word_of first) gone)

    by : (m < p) ⊎ (p ≤ m) → words ≡ map (word_of first) numbers
        → (if less (word_of first m) (word_of first p) then words else word_of first m ∷ words)
        ≡ map (word_of first) (if nat_lt m p then numbers else m ∷ numbers)
    by (inl before) rest =
        let a = here.0 in rw (less_word first m p before (omega arith)) (rw (lt-ltb m p before) rest)
    by (inr after) rest =
        let a = here.1 in rw (not_less_word first m p after (omega arith)) (rw (le-ltb m p after) (ap (λ l. word_of first m ∷ l) rest))
