-- One more ticket is live, before one that goes, by their numbers.
use Rattle.std.proofs.Common.{◌≡◌, ◌≢◌, ℕ, ◌+◌, ◌-◌, ◌<◌, ◌≤◌, ◌⊎◌, List, [], ◌∷◌, ◌++◌, length, refl, sym, ap, ◌∙◌}
use Rattle.std.proofs.Common.{inl, inr, arith}
use Rattle.std.proofs.lemmas.Bool.{cases_lt}
use Rattle.std.proofs.lemmas.List.{length-map, map-append}
use native.Mathlib.Decide.{ℕ_discrete}
use Rattle.step_table.specs.Counting.{on, among}
use Rattle.step_table.specs.Wrapping.{word_of, next_word, minus}
use Rattle.step_table.proofs.Sums.{on_here, on_else}
use Rattle.step_table.proofs.Wrapping.{word_next}
use Rattle.step_law_lists.specs.ListInvariant.{IsRising}
use Rattle.notify_list.specs.declared.live.Live.{Live}
use Rattle.notify_list.specs.LiveTickets.{AreKept, AreLive, MayBeGone}
use Rattle.notify_list.proofs.LiveTickets.{among_append, first_of, minus_near, together}

-- a number above all others comes last
rising_on : (l : List ℕ) (e : ℕ) → IsRising l → ((n : ℕ) → e ≤ n → among n l ≡ 0) → IsRising (l ++ e ∷ [])
rising_on [] e rising above = ((λ n some. absurd (omega arith)), tt)
rising_on (x ∷ l) e rising above = (
  (λ n some. by n (ℕ_discrete n e) some),
  rising_on l e rising.1 (λ n after. (let none = above n after in omega arith)),
)
  where
    low : x < e
    low = by_order (cases_lt x e)
      where
        by_order : (x < e) ⊎ (e ≤ x) → x < e
        by_order (inl before) = before
        by_order (inr after) = absurd (first_of x l (above x after))

    by : (n : ℕ) → Dec (n ≡ e) → 0 < among n (l ++ e ∷ []) → x < n
    by n (yes at) some = let b = low in omega arith
    by n (no ne) some = let sum = among_append n l (e ∷ []) in let off = on_else n e 1 ne in rising.0 n (omega arith)

-- one more is live, before one that goes
module _ {first : ℕ} {y : Live} {passed : ℕ} {gone : List ℕ} (kept : AreKept first y passed gone) where
  pub kept_more : (z : Live) → z.words.items ≡ y.words.items ++ y.end ∷ [] → z.end ≡ next_word y.end
      → (now : AreKept first z passed gone) × (now.end ≡ kept.end + 1)
  kept_more z words end = (
    record {
      numbers = kept.numbers ++ kept.end ∷ [];
      end = kept.end + 1;
      words_are = words ∙ (λ i. kept.words_are i ++ kept.end_is i ∷ []) ∙ sym (map-append (word_of first) kept.numbers (kept.end ∷ []));
      end_is = end ∙ ap next_word kept.end_is ∙ word_next first kept.end;
      rising = rising_on kept.numbers kept.end kept.rising (λ n after. (kept.above n after).0);
      from = let f = kept.from in omega arith;
      below = λ n before. (let sum = among_append n kept.numbers (kept.end ∷ []) in let a = kept.below n before in let f = kept.from in
          let off = on_else n kept.end 1 (λ e. omega arith) in omega arith);
      parted = λ n low high. parts n low high (ℕ_discrete n kept.end);
      above = λ n after. (
        (let sum = among_append n kept.numbers (kept.end ∷ []) in let a = (kept.above n (omega arith)).0 in
            let off = on_else n kept.end 1 (λ e. omega arith) in omega arith),
        (kept.above n (omega arith)).1,
      );
      stays = kept.stays;
    },
    refl,
  )
    where
      parts : (n : ℕ) → passed ≤ n → n < kept.end + 1 → Dec (n ≡ kept.end) → among n (kept.numbers ++ kept.end ∷ []) + among n gone ≡ 1
      parts n low high (yes at) =
          let sum = among_append n kept.numbers (kept.end ∷ []) in let a = kept.above n (omega arith) in let b = a.0 in let c = a.1 in
          let here = ap (λ e. on n e 1) (sym at) ∙ on_here n 1 in omega arith
      parts n low high (no ne) =
          let sum = among_append n kept.numbers (kept.end ∷ []) in let off = on_else n kept.end 1 ne in let one = kept.parted n low (omega arith) in omega arith

  -- and then it goes
  pub kept_last : (z : Live) (m : ℕ) (more : List ℕ) → kept.end ≡ m → passed < m → z.words.items ≡ y.words.items → z.end ≡ next_word (word_of first m)
      → ((n : ℕ) → among n more ≡ among n gone + on n m 1) → AreLive first z passed more
  kept_last z m more at after words end goes = record {
    kept = record {
      numbers = kept.numbers;
      end = m + 1;
      words_are = words ∙ kept.words_are;
      end_is = end ∙ word_next first m;
      rising = kept.rising;
      from = omega arith;
      below = kept.below;
      parted = λ n low high. parts n low high (ℕ_discrete n m);
      above = λ n beyond. (
        (kept.above n (omega arith)).0,
        (let g = goes n in let a = (kept.above n (omega arith)).1 in let off = on_else n m 1 (λ e. omega arith) in omega arith),
      );
      stays = let g = goes passed in let a = kept.stays in let off = on_else passed m 1 (λ e. omega arith) in omega arith;
    };
    last = λ n e low. (let g = goes n in let is : n ≡ m = omega arith in let here = ap (λ k. on n k 1) (sym is) ∙ on_here n 1 in omega arith);
  }
    where
      parts : (n : ℕ) → passed ≤ n → n < m + 1 → Dec (n ≡ m) → among n kept.numbers + among n more ≡ 1
      parts n low high (yes is) =
          let g = goes n in let a = kept.above n (omega arith) in let b = a.0 in let c = a.1 in
          let here = ap (λ k. on n k 1) (sym is) ∙ on_here n 1 in omega arith
      parts n low high (no ne) = let g = goes n in let off = on_else n m 1 ne in let one = kept.parted n low (omega arith) in omega arith

  -- how far it is to that one, by the words
  pub not_yet : (m ticket room : ℕ) → kept.end ≤ m → MayBeGone first passed m gone ticket room → y.end ≢ ticket → kept.end < m
  not_yet m ticket room le may ne = by (ℕ_discrete kept.end m)
    where
      by : Dec (kept.end ≡ m) → kept.end < m
      by (yes at) = absurd (ne (kept.end_is ∙ ap (word_of first) at ∙ sym may.ticket_is))
      by (no other) = omega arith

  pub there_yet : (m ticket room : ℕ) → kept.end ≤ m → MayBeGone first passed m gone ticket room → y.end ≡ ticket → kept.end ≡ m
  there_yet m ticket room le may is = by (ℕ_discrete kept.end m)
    where
      by : Dec (kept.end ≡ m) → kept.end ≡ m
      by (yes at) = at
      by (no other) =
          let far : minus ticket y.end ≡ m - kept.end = (λ i. minus (may.ticket_is i) (kept.end_is i)) ∙ minus_near first m kept.end le (let e = may.early in omega arith) in
          let none : minus ticket y.end ≡ 0 = ap (λ k. minus k y.end) (sym is) ∙ minus_self y.end (kept.end_is) in absurd (omega arith)
        where
          minus_self : (a : ℕ) → a ≡ word_of first kept.end → minus a a ≡ 0
          minus_self a e = ap (λ k. minus k k) e ∙ minus_near first kept.end kept.end (omega arith) (omega arith) ∙ omega arith

  pub steps_left : (m ticket room : ℕ) → kept.end ≤ m → MayBeGone first passed m gone ticket room → minus ticket y.end ≡ m - kept.end
  steps_left m ticket room le may = (λ i. minus (may.ticket_is i) (kept.end_is i)) ∙ minus_near first m kept.end le (let e = may.early in omega arith)

  pub room_left : (m ticket room : ℕ) → kept.end < m → MayBeGone first passed m gone ticket room → length y.words.items < room
  room_left m ticket room less may =
      let a = together kept may.gone_early in let b = ap length kept.words_are ∙ length-map kept.numbers (word_of first) in
      let f = may.fits in let g = kept.from in omega arith
