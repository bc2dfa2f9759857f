-- Which tickets are live, by their numbers: one is passed, one goes, or all are passed.
use Rattle.std.proofs.Common.{◌≡◌, ℕ, zero, suc, ◌+◌, ◌-◌, ◌<◌, ◌≤◌, ◌⊎◌, ◌^◌, List, [], ◌∷◌, ◌++◌, length, map, drop, get_or, refl, sym, ap, ◌∙◌}
use Rattle.std.proofs.Common.{subst, inl, inr, arith}
use Rattle.std.proofs.lemmas.Bool.{cases_lt}
use Rattle.std.proofs.lemmas.List.{length-map}
use native.Mathlib.Decide.{ℕ_discrete}
use Rattle.step_table.specs.Counting.{on, total, among}
use Rattle.step_table.specs.Wrapping.{word_of, minus}
use Rattle.step_table.proofs.Sums.{on_here, on_else, total_zero, total_suc, nothing, single}
use Rattle.step_table.proofs.SumsOfSums.{total_add}
use Rattle.step_law_lists.specs.ListInvariant.{IsRising}
use Rattle.notify_list.specs.declared.live.Live.{Live}
use Rattle.notify_list.specs.LiveTickets.{AreKept, AreLive, IsNext, AreEarly, MayAllPass, AllPassed}

pub among_append : (n : ℕ) (a b : List ℕ) → among n (a ++ b) ≡ among n a + among n b
among_append n [] b = omega arith
among_append n (x ∷ a) b = let rest = among_append n a b in omega arith

-- what the words of a list tell of its numbers
pub no_words : (f : ℕ → ℕ) (l : List ℕ) → map f l ≡ [] → l ≡ []
no_words f [] e = refl
no_words f (x ∷ l) e = absurd cc

pub some_words : (f : ℕ → ℕ) (l : List ℕ) (w : ℕ) (ws : List ℕ) → map f l ≡ w ∷ ws → (x : ℕ) × (rest : List ℕ) × (l ≡ x ∷ rest) × (w ≡ f x) × (ws ≡ map f rest)
some_words f [] w ws e = absurd cc
some_words f (x ∷ l) w ws e = (x, l, refl, cc, cc)

-- the first of rising numbers, and that they rise on
pub first_of : (x : ℕ) (l : List ℕ) → among x (x ∷ l) ≡ 0 → ⊥
first_of x l none = let here = on_here x 1 in absurd (omega arith)

least_is : (x : ℕ) (l : List ℕ) (n : ℕ) → IsRising (x ∷ l) → 0 < among n (x ∷ l) → x ≤ n
least_is x l n rising some = by (ℕ_discrete n x)
  where
    by : Dec (n ≡ x) → x ≤ n
    by (yes e) = omega arith
    by (no ne) = let off = on_else n x 1 ne in let more = rising.0 n (omega arith) in omega arith

none_in : (l : List ℕ) → ((n : ℕ) → among n l ≡ 0) → l ≡ []
none_in [] none = refl
none_in (x ∷ l) none = absurd (first_of x l (none x))

-- the numbers of a list that are all among so many
counted : (m g : ℕ) (l : List ℕ) → ((n : ℕ) → 0 < among n l → (g ≤ n) × (n < g + m)) → total m (λ n. among (g + n) l) ≡ length l
counted m g [] within = nothing m (λ n. 0) (λ n. refl)
counted m g (x ∷ l) within =
    let here = on_here x 1 in
    let at = within x (omega arith) in
    let low = at.0 in let high = at.1 in
    let place : g + (x - g) ≡ x = omega arith in
    let one : total m (λ n. on (g + n) x 1) ≡ on (g + (x - g)) x 1
    = single m (λ n. on (g + n) x 1) (x - g) (omega arith) (λ k ne. on_else (g + k) x 1 (λ e. ne (omega arith))) in
    let is : on (g + (x - g)) x 1 ≡ 1 = ap (λ k. on k x 1) place ∙ here in
    let rest = counted m g l (λ n some. within n (omega arith)) in
    let sum : total m (λ n. on (g + n) x 1 + among (g + n) l) ≡ total m (λ n. on (g + n) x 1) + total m (λ n. among (g + n) l)
    = total_add m (λ n. on (g + n) x 1) (λ n. among (g + n) l) in omega arith

so_many : (m : ℕ) (f : ℕ → ℕ) → ((k : ℕ) → k < m → f k ≡ 1) → total m f ≡ m
so_many zero f ones = total_zero f
so_many (suc m) f ones =
    let rest = so_many m f (λ k low. ones k (omega arith)) in let last = ones m (omega arith) in let more = total_suc m f in omega arith

pub minus_near : (first a b : ℕ) → b ≤ a → a < b + 2 ^ 64 → minus (word_of first a) (word_of first b) ≡ a - b
unfolding minus word_of
minus_near first a b le near = omega arith

-- live and gone ones together are all from the first up to the end
module _ {first : ℕ} {y : Live} {passed : ℕ} {gone : List ℕ} (kept : AreKept first y passed gone) (early : AreEarly passed gone) where
  pub together : length kept.numbers + length gone ≡ kept.end - passed
  together =
      let m = kept.end - passed in
      let live : total m (λ n. among (passed + n) kept.numbers) ≡ length kept.numbers = counted m passed kept.numbers (λ n some. live_within n some) in
      let left : total m (λ n. among (passed + n) gone) ≡ length gone = counted m passed gone (λ n some. gone_within n some) in
      let sum : total m (λ n. among (passed + n) kept.numbers + among (passed + n) gone)
      ≡ total m (λ n. among (passed + n) kept.numbers) + total m (λ n. among (passed + n) gone)
      = total_add m (λ n. among (passed + n) kept.numbers) (λ n. among (passed + n) gone) in
      let all : total m (λ n. among (passed + n) kept.numbers + among (passed + n) gone) ≡ m
      = so_many m (λ n. among (passed + n) kept.numbers + among (passed + n) gone) (λ k low. kept.parted (passed + k) (omega arith) (omega arith)) in
      omega arith
    where
      live_within : (n : ℕ) → 0 < among n kept.numbers → (passed ≤ n) × (n < passed + (kept.end - passed))
      live_within n some = by (cases_lt n passed) (cases_lt n kept.end)
        where
          by : (n < passed) ⊎ (passed ≤ n) → (n < kept.end) ⊎ (kept.end ≤ n) → (passed ≤ n) × (n < passed + (kept.end - passed))
          by (inl before) any = absurd (let none = kept.below n before in omega arith)
          by (inr low) (inl high) = let from = kept.from in (low, omega arith)
          by (inr low) (inr after) = absurd (let none = (kept.above n after).0 in omega arith)

      gone_within : (n : ℕ) → 0 < among n gone → (passed ≤ n) × (n < passed + (kept.end - passed))
      gone_within n some = by (cases_lt n kept.end)
        where
          by : (n < kept.end) ⊎ (kept.end ≤ n) → (passed ≤ n) × (n < passed + (kept.end - passed))
          by (inl high) = let low = early.after n some in let from = kept.from in (omega arith, omega arith)
          by (inr after) = absurd (let none = (kept.above n after).1 in omega arith)

-- the first that is left is none else
next_is : (passed next at : ℕ) (gone : List ℕ) → IsNext passed gone next → passed < at → ((n : ℕ) → passed < n → n < at → 0 < among n gone)
    → among at gone ≡ 0 → next ≡ at
next_is passed next at gone is after between left = by (cases_lt next at) (cases_lt at next)
  where
    by : (next < at) ⊎ (at ≤ next) → (at < next) ⊎ (next ≤ at) → next ≡ at
    by (inl before) any = absurd (let a = is.left in let b = between next is.after before in omega arith)
    by (inr le) (inl less) = absurd (let a = left in let b = is.between at after less in omega arith)
    by (inr le) (inr ge) = omega arith

word_less : (first : ℕ) → first < 2 ^ 64 → first ≡ word_of first 0
unfolding word_of
word_less first fits = omega arith

-- none is handed out
pub none_live : (first : ℕ) (y : Live) → first < 2 ^ 64 → y.words.items ≡ [] → y.end ≡ first → AreLive first y 0 []
none_live first y fits none end = record {
  kept = record {
    numbers = [];
    end = 0;
    words_are = none;
    end_is = end ∙ word_less first fits;
    rising = tt;
    from = omega arith;
    below = λ n before. refl;
    parted = λ n low high. absurd (omega arith);
    above = λ n after. (refl, refl);
    stays = refl;
  };
  last = λ n e low. absurd (omega arith);
}

module _ {first : ℕ} {y : Live} {passed : ℕ} {gone : List ℕ} (live : AreLive first y passed gone) (next : ℕ) (left : List ℕ)
    (is : IsNext passed gone next) (same : (n : ℕ) → next ≤ n → among n left ≡ among n gone) where
  abbrev k : AreKept first y passed gone
  k = live.kept

  -- none is live, so none is gone
  pub pass_none : (z : Live) → k.numbers ≡ [] → z.words.items ≡ y.words.items → z.end ≡ word_of first (passed + 1)
      → (next ≡ passed + 1) × AreLive first z next left
  pass_none z none words end = (
    at,
    record {
      kept = record {
        numbers = [];
        end = next;
        words_are = words ∙ k.words_are ∙ ap (map (word_of first)) none;
        end_is = end ∙ ap (word_of first) (sym at);
        rising = tt;
        from = omega arith;
        below = λ n before. refl;
        parted = λ n low high. absurd (omega arith);
        above = λ n after. (refl, same n after ∙ (k.above n (let e = at in let f = ends in omega arith)).1);
        stays = same next (omega arith) ∙ is.left;
      };
      last = λ n e low. absurd (omega arith);
    },
  )
    where
      ends : k.end ≡ passed
      ends = by (cases_lt passed k.end)
        where
          by : (passed < k.end) ⊎ (k.end ≤ passed) → k.end ≡ passed
          by (inl before) = absurd (let one = k.parted passed (omega arith) before in let no = k.stays in let e = ap (among passed) none in omega arith)
          by (inr le) = let from = k.from in omega arith

      at : next ≡ passed + 1
      at = next_is passed next (passed + 1) gone is (omega arith) (λ n a b. absurd (omega arith)) (k.above (passed + 1) (let e = ends in omega arith)).1

  -- the first live one is the one that is passed
  module _ (x : ℕ) (rest : List ℕ) (numbers : k.numbers ≡ x ∷ rest) where
    rises : IsRising (x ∷ rest)
    rises = subst IsRising numbers k.rising

    in_it : (n : ℕ) → among n k.numbers ≡ on n x 1 + among n rest
    in_it n = ap (among n) numbers

    within : (passed ≤ x) × (x < k.end)
    within = by (cases_lt x passed) (cases_lt x k.end)
      where
        some : 0 < among x k.numbers
        some = let e = in_it x in let here = on_here x 1 in omega arith

        by : (x < passed) ⊎ (passed ≤ x) → (x < k.end) ⊎ (k.end ≤ x) → (passed ≤ x) × (x < k.end)
        by (inl before) any = absurd (let none = k.below x before in let s = some in omega arith)
        by (inr low) (inl high) = (low, high)
        by (inr low) (inr after) = absurd (let none = (k.above x after).0 in let s = some in omega arith)

    pub first_live : x ≡ passed
    first_live =
        let w = within in let low = w.0 in let high = w.1 in
        let one = k.parted passed (omega arith) (omega arith) in let no = k.stays in let e = in_it passed in
        let least = least_is x rest passed rises (omega arith) in omega arith

    -- after it
    else_in : (n : ℕ) → passed < n → among n k.numbers ≡ among n rest
    else_in n after = let e = in_it n in let at = first_live in let off = on_else n x 1 (λ e. omega arith) in omega arith

    -- no other is live
    pub pass_last : (z : Live) → rest ≡ [] → z.words.items ≡ [] → z.end ≡ y.end → (next ≡ k.end) × AreLive first z next left
    pass_last z none words end = (
      at,
      record {
        kept = record {
          numbers = [];
          end = next;
          words_are = words;
          end_is = end ∙ k.end_is ∙ ap (word_of first) (sym at);
          rising = tt;
          from = omega arith;
          below = λ n before. refl;
          parted = λ n low high. absurd (omega arith);
          above = λ n after. (refl, same n after ∙ (k.above n (let e = at in omega arith)).1);
          stays = same next (omega arith) ∙ is.left;
        };
        last = λ n e low. absurd (omega arith);
      },
    )
      where
        at : next ≡ k.end
        at = next_is passed next k.end gone is (let w = within in let a = w.0 in let b = w.1 in omega arith)
            (λ n after before. (let one = k.parted n (omega arith) before in let e = else_in n after in let f = ap (among n) none in omega arith))
            (k.above k.end (omega arith)).1

    -- another is
    pub pass_some : (z : Live) (b : ℕ) (others : List ℕ) → rest ≡ b ∷ others → z.words.items ≡ map (word_of first) rest → z.end ≡ y.end
        → (next ≡ b) × AreLive first z next left
    pass_some z b others more words end = (
      at,
      record {
        kept = record {
          numbers = rest;
          end = k.end;
          words_are = words;
          end_is = end ∙ k.end_is;
          rising = rises.1;
          from = let h = ahead in let l = h.1 in let e = at in omega arith;
          below = λ n before. by_less n before (ℕ_discrete (among n rest) 0);
          parted = λ n low high. (let e = else_in n (let a = is.after in omega arith) in let one = k.parted n (let a = is.after in omega arith) high in
              let g = same n low in omega arith);
          above = λ n after. (
            (let e = else_in n (let h = ahead in let l = h.0 in let m = h.1 in omega arith) in let none = (k.above n after).0 in omega arith),
            same n (let h = ahead in let l = h.1 in let e = at in omega arith) ∙ (k.above n after).1,
          );
          stays = same next (omega arith) ∙ is.left;
        };
        last = λ n e low. (let g = same n low in let some = live.last n e (let a = is.after in omega arith) in omega arith);
      },
    )
      where
        some_b : 0 < among b rest
        some_b = let e = ap (among b) more in let here = on_here b 1 in omega arith

        ahead : (passed < b) × (b < k.end)
        ahead = by (cases_lt b k.end)
          where
            after : passed < b
            after = let up = rises.0 b some_b in let e = first_live in omega arith

            by : (b < k.end) ⊎ (k.end ≤ b) → (passed < b) × (b < k.end)
            by (inl high) = (after, high)
            by (inr beyond) = absurd (let none = (k.above b beyond).0 in let e = else_in b after in let s = some_b in omega arith)

        not_live : (n : ℕ) → passed < n → n < b → Dec (among n rest ≡ 0) → among n rest ≡ 0
        not_live n after before (yes none) = none
        not_live n after before (no some) =
            let least = least_is b others n (subst IsRising more rises.1) (let e = ap (among n) more in omega arith) in absurd (omega arith)

        at : next ≡ b
        at = next_is passed next b gone is ahead.0
            (λ n after before. (let one = k.parted n (omega arith) (let h = ahead.1 in omega arith) in let e = else_in n after in
            let none = not_live n after before (ℕ_discrete (among n rest) 0) in omega arith))
            (let h = ahead in let one = k.parted b (let a = h.0 in omega arith) h.1 in let e = else_in b h.0 in let s = some_b in omega arith)

        by_less : (n : ℕ) → n < next → Dec (among n rest ≡ 0) → among n rest ≡ 0
        by_less n before (yes none) = none
        by_less n before (no some) =
            let least = least_is b others n (subst IsRising more rises.1) (let e = ap (among n) more in omega arith) in
            absurd (let e = at in omega arith)

  -- what the code finds
  empty : {A : Type 0} (l : List A) → length l ≤ 0 → l ≡ []
  empty [] none = refl
  empty (x ∷ l) none = absurd (omega arith)

  pub found_none : (z : Live) → length y.words.items ≤ 0 → z.words.items ≡ y.words.items → z.end ≡ word_of first (passed + 1)
      → (z.end ≡ word_of first next) × AreLive first z next left
  found_none z none words end =
      let is_none = no_words (word_of first) k.numbers (sym k.words_are ∙ empty y.words.items none) in
      let both = pass_none z is_none words end in (end ∙ ap (word_of first) (sym both.0), both.1)

  pub found_last : (z : Live) → 0 < length y.words.items → z.words.items ≡ drop 1 y.words.items → length z.words.items ≤ 0 → z.end ≡ y.end
      → (z.end ≡ word_of first next) × AreLive first z next left
  found_last z some words none end = by k.numbers refl
    where
      by : (l : List ℕ) → k.numbers ≡ l → (z.end ≡ word_of first next) × AreLive first z next left
      by [] e = absurd (let n = ap length k.words_are in let m = ap (λ l. length (map (word_of first) l)) e in omega arith)
      by (x ∷ rest) e =
          let items = words ∙ ap (drop 1) (k.words_are ∙ ap (map (word_of first)) e) in
          let both = pass_last x rest e z (no_words (word_of first) rest (sym items ∙ empty z.words.items none)) (empty z.words.items none) end in
          (end ∙ k.end_is ∙ ap (word_of first) (sym both.0), both.1)

  pub found_some : (z : Live) (w : ℕ) → 0 < length y.words.items → z.words.items ≡ drop 1 y.words.items → 0 < length z.words.items
      → w ≡ get_or z.words.items 0 w → z.end ≡ y.end
      → (w ≡ word_of first next) × AreLive first z next left
  found_some z w some words more at end = by k.numbers refl
    where
      by : (l : List ℕ) → k.numbers ≡ l → (w ≡ word_of first next) × AreLive first z next left
      by [] e = absurd (let n = ap length k.words_are in let m = ap (λ l. length (map (word_of first) l)) e in omega arith)
      by (x ∷ []) e =
          let items = words ∙ ap (drop 1) (k.words_are ∙ ap (map (word_of first)) e) in absurd (let n = ap length items in omega arith)
      by (x ∷ b ∷ others) e =
          let items = words ∙ ap (drop 1) (k.words_are ∙ ap (map (word_of first)) e) in
          let both = pass_some x (b ∷ others) e z b others refl items end in
          (at ∙ ap (λ l. get_or l 0 w) items ∙ ap (word_of first) (sym both.0), both.1)

-- all are passed
module _ {first : ℕ} {y : Live} {passed : ℕ} {gone : List ℕ} (live : AreLive first y passed gone) (upto waited : ℕ)
    (may : MayAllPass first passed upto gone waited) where
  pub end_within : live.kept.end ≤ upto
  end_within = by (ℕ_discrete live.kept.end passed)
    where
      by : Dec (live.kept.end ≡ passed) → live.kept.end ≤ upto
      by (yes at) = let from = may.from in omega arith
      by (no ne) =
          let from = live.kept.from in
          let some = live.last (live.kept.end - 1) (omega arith) (omega arith) in
          let low = may.all (live.kept.end - 1) some in omega arith

  pub few_live : length live.kept.numbers + length gone ≡ live.kept.end - passed
  few_live = together live.kept may.gone_early

  -- how many words lie between
  between : minus waited y.end ≡ upto - live.kept.end
  between =
      (λ i. minus (may.waited_is i) (live.kept.end_is i))
      ∙ minus_near first upto live.kept.end end_within (let n = may.near in let f = live.kept.from in omega arith)

  pub passed_all : (z : Live) (len rest : ℕ) → len ≡ length y.words.items → rest ≡ minus waited y.end → z.words.items ≡ [] → z.end ≡ waited
      → AllPassed first passed upto gone (len + rest) z
  passed_all z len rest count is none end = (
    (let a = few_live in let b = between in let c = words_many in let d = end_within in let e = live.kept.from in omega arith),
    λ left no. record {
      kept = record {
        numbers = [];
        end = upto;
        words_are = none;
        end_is = end ∙ may.waited_is;
        rising = tt;
        from = omega arith;
        below = λ n before. refl;
        parted = λ n low high. absurd (omega arith);
        above = λ n after. (refl, no n);
        stays = no upto;
      };
      last = λ n e low. absurd (omega arith);
    },
  )
    where
      words_many : length y.words.items ≡ length live.kept.numbers
      words_many = ap length live.kept.words_are ∙ length-map live.kept.numbers (word_of first)

  pub few_words : (len rest : ℕ) → len ≡ length y.words.items → rest ≡ minus waited y.end → len + rest < 2 ^ 64
  few_words len rest count is =
      let a = few_live in let b = between in
      let c = ap length live.kept.words_are ∙ length-map live.kept.numbers (word_of first) in let d = end_within in let e = live.kept.from in
      let n = may.near in omega arith
